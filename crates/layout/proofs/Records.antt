-- Records read back from the bytes that encode them, and bytes that are the encoding of what is read in them.
use Rattle.std.proofs.Common.{◌≡◌, ℕ, zero, suc, ◌+◌, ◌*◌, ◌≤◌, true, List, [], ◌∷◌, ◌++◌, length, get_or, drop, sym, refl, ap, ◌∙◌, append_assoc, append-nil, arith}
use Rattle.std.proofs.lemmas.List.{length-append, drop_more}
use Rattle.std.proofs.lemmas.Bool.Decides.{Decides-eqb}
use Rattle.std.proofs.lemmas.Slice.Eq.{starts_is}
use Rattle.terms.specs.declared.row.Row.{Row}
use Rattle.terms.specs.declared.fact.Fact.{Fact}
use Rattle.layout.specs.declared.Group.{Group}
use Rattle.layout.specs.declared.Group.TheVariants.{Rule, Factory, Site}
use Rattle.layout.specs.Layout.{layout, encoded_row, encoded_rows, encoded_fact, encoded_facts, marked, row_in, fact_in}

-- where a mark stands at the front, the bytes are it and what follows it
pub mark_front : (g : Group) (bytes : List ℕ) → marked g bytes ≡ true → bytes ≡ (layout g).mark ++ drop 2 bytes
mark_front Rule bytes m = (starts_is Decides-eqb bytes (layout Rule).mark (marked Rule bytes) refl).0 m
mark_front Factory bytes m = (starts_is Decides-eqb bytes (layout Factory).mark (marked Factory bytes) refl).0 m
mark_front Site bytes m = (starts_is Decides-eqb bytes (layout Site).mark (marked Site bytes) refl).0 m

-- a mark has two bytes
pub mark_two : (g : Group) (bytes : List ℕ) → marked g bytes ≡ true → 2 ≤ length bytes
mark_two Rule bytes m = let e = ap length (mark_front Rule bytes m) in omega arith
mark_two Factory bytes m = let e = ap length (mark_front Factory bytes m) in omega arith
mark_two Site bytes m = let e = ap length (mark_front Site bytes m) in omega arith

-- at most one mark stands at the front
second : (g : Group) (bytes : List ℕ) → marked g bytes ≡ true → get_or bytes 1 0 ≡ get_or (layout g).mark 1 0
second Rule bytes m = ap (λ (z : List ℕ). get_or z 1 0) (mark_front Rule bytes m)
second Factory bytes m = ap (λ (z : List ℕ). get_or z 1 0) (mark_front Factory bytes m)
second Site bytes m = ap (λ (z : List ℕ). get_or z 1 0) (mark_front Site bytes m)

by_second : (g h : Group) → get_or (layout g).mark 1 0 ≡ get_or (layout h).mark 1 0 → g ≡ h
by_second Rule Rule e = refl
by_second Rule Factory e = absurd (omega arith)
by_second Rule Site e = absurd (omega arith)
by_second Factory Rule e = absurd (omega arith)
by_second Factory Factory e = refl
by_second Factory Site e = absurd (omega arith)
by_second Site Rule e = absurd (omega arith)
by_second Site Factory e = absurd (omega arith)
by_second Site Site e = refl

pub one_mark : (g h : Group) (bytes : List ℕ) → marked g bytes ≡ true → marked h bytes ≡ true → g ≡ h
one_mark g h bytes m n = by_second g h (sym (second g bytes m) ∙ second h bytes n)

-- n bytes from the place i
reads : ℕ → ℕ → List ℕ → List ℕ
reads zero i bytes = []
reads (suc n) i bytes = get_or bytes i 0 ∷ reads n (i + 1) bytes

from_place : (n i : ℕ) (bytes : List ℕ) → i + n ≤ length bytes → drop i bytes ≡ reads n i bytes ++ drop (i + n) bytes
unfolding reads
from_place zero i bytes h = ap (λ (k : ℕ). drop k bytes) (omega arith)
from_place (suc n) i bytes h =
    let k : (i + 1) + n ≡ i + suc n = omega arith in
    drop_more bytes i 0 (omega arith) ∙ ap (λ (z : List ℕ). get_or bytes i 0 ∷ z) (from_place n (i + 1) bytes (omega arith) ∙ ap (λ (k : ℕ). reads n (i + 1) bytes ++ drop k bytes) k)

-- a whole record with its mark is the encoding of its row or fact
pub row_forth : (bytes : List ℕ) → marked Rule bytes ≡ true → 10 ≤ length bytes → bytes ≡ encoded_row (row_in bytes) ++ drop 10 bytes
unfolding reads
row_forth bytes m h = mark_front Rule bytes m ∙ ap (λ (z : List ℕ). (layout Rule).mark ++ z) (from_place 8 2 bytes h)

pub fact_forth : (g : Group) (bytes : List ℕ) → marked g bytes ≡ true → 6 ≤ length bytes → bytes ≡ encoded_fact g (fact_in bytes) ++ drop 6 bytes
unfolding reads
fact_forth Rule bytes m h = mark_front Rule bytes m ∙ ap (λ (z : List ℕ). (layout Rule).mark ++ z) (from_place 4 2 bytes h)
fact_forth Factory bytes m h = mark_front Factory bytes m ∙ ap (λ (z : List ℕ). (layout Factory).mark ++ z) (from_place 4 2 bytes h)
fact_forth Site bytes m h = mark_front Site bytes m ∙ ap (λ (z : List ℕ). (layout Site).mark ++ z) (from_place 4 2 bytes h)

-- the four features of an encoded row are read back
four_back : (fs rest : List ℕ) → length fs ≡ 4 → (get_or (fs ++ rest) 0 0 ∷ get_or (fs ++ rest) 1 0 ∷ get_or (fs ++ rest) 2 0 ∷ get_or (fs ++ rest) 3 0 ∷ []) ≡ fs
four_back [] rest h = absurd (omega arith)
four_back (a ∷ []) rest h = absurd (omega arith)
four_back (a ∷ b ∷ []) rest h = absurd (omega arith)
four_back (a ∷ b ∷ c ∷ []) rest h = absurd (omega arith)
four_back (a ∷ b ∷ c ∷ d ∷ []) rest h = refl
four_back (a ∷ b ∷ c ∷ d ∷ e ∷ fs) rest h = absurd (omega arith)

pub row_back : (r : Row) (rest : List ℕ) → length r.features ≡ 4 → row_in (encoded_row r ++ rest) ≡ r
row_back r rest h = ap (λ (fs : List ℕ). let z : Row = record { kind = r.kind; left = r.left; right = r.right; count = r.count; features = fs } in z) (four_back r.features rest h)

-- the lengths of encodings
pub fact_length : (g : Group) (f : Fact) → length (encoded_fact g f) ≡ 6
fact_length Rule f = refl
fact_length Factory f = refl
fact_length Site f = refl

pub facts_length : (g : Group) (facts : List Fact) → length (encoded_facts g facts) ≡ 6 * length facts
facts_length g [] = refl
facts_length g (f ∷ facts) =
    let e = facts_length g facts in
    let n = fact_length g f in
    let l = length-append (encoded_fact g f) (encoded_facts g facts) in
    omega arith

-- one record more
pub rows_more : (rows : List Row) (r : Row) → encoded_rows (rows ++ r ∷ []) ≡ encoded_rows rows ++ encoded_row r
rows_more [] r = append-nil (encoded_row r)
rows_more (q ∷ rows) r = ap (λ (z : List ℕ). encoded_row q ++ z) (rows_more rows r) ∙ sym (append_assoc (encoded_row q) (encoded_rows rows) (encoded_row r))

pub facts_more : (g : Group) (facts : List Fact) (f : Fact) → encoded_facts g (facts ++ f ∷ []) ≡ encoded_facts g facts ++ encoded_fact g f
facts_more g [] f = append-nil (encoded_fact g f)
facts_more g (e ∷ facts) f = ap (λ (z : List ℕ). encoded_fact g e ++ z) (facts_more g facts f) ∙ sym (append_assoc (encoded_fact g e) (encoded_facts g facts) (encoded_fact g f))
