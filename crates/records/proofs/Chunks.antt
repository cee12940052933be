-- Records in bytes: chunks of a record's size, and the bytes after records.
use Rattle.std.proofs.Common.{◌≡◌, ℕ, ◌+◌, ◌-◌, ◌*◌, ◌/◌, ◌<◌, ◌≤◌, min, leb, true, false, List, [], ◌++◌, length, get_or, take, drop, sym, refl, ap, ◌∙◌, inl, inr, append-nil, add-one, arith, lit<, lit≤}
use Rattle.std.proofs.Math.Nat.{mul-suc, mul-div_cancel_left}
use Rattle.std.proofs.lemmas.List.{length-append, length-take, length-take-le, length-drop, drop-drop, drop_at, get_or-take, take-take, take_all, take_at, take_rest, nil_from_length}
use Rattle.std.proofs.lemmas.Bool.{cases_lt, leb-true}
use Rattle.std.proofs.lemmas.Bool.Decides.{nat_tests}
use Rattle.layout.specs.declared.Group.{Group}
use Rattle.layout.specs.declared.Group.TheVariants.{Rule, Factory, Site}
use Rattle.layout.specs.Layout.{layout, marked, whole, row_in, fact_in}
use Rattle.records.specs.Groups.{past, Ends}
use Rattle.records.proofs.Stepping.{some_size}

-- the chunk of a record's size at the front of bytes says of the record what the bytes say
pub front_marked : (g : Group) (bytes : List ℕ) → marked g (take (layout g).size bytes) ≡ marked g bytes
front_marked Rule bytes = rw (take-take 2 10 bytes (lit≤ tt))
front_marked Factory bytes = rw (take-take 2 6 bytes (lit≤ tt))
front_marked Site bytes = rw (take-take 2 6 bytes (lit≤ tt))

leb_min : (n m : ℕ) → leb n (min n m) ≡ leb n m
leb_min n m = grind (arith, nat_tests)

pub front_whole : (g : Group) (bytes : List ℕ) → whole g (take (layout g).size bytes) ≡ whole g bytes
front_whole g bytes = ap (leb (layout g).size) (length-take (layout g).size bytes) ∙ leb_min (layout g).size (length bytes)

pub front_row : (bytes : List ℕ) → row_in (take 10 bytes) ≡ row_in bytes
front_row bytes =
    let at : (i : ℕ) → i < 10 → get_or (take 10 bytes) i 0 ≡ get_or bytes i 0 = λ i h. get_or-take 10 bytes i 0 h in
    rw (at 2 (lit< tt), at 3 (lit< tt), at 4 (lit< tt), at 5 (lit< tt), at 6 (lit< tt), at 7 (lit< tt), at 8 (lit< tt), at 9 (lit< tt))

pub front_fact : (bytes : List ℕ) → fact_in (take 6 bytes) ≡ fact_in bytes
front_fact bytes =
    let at : (i : ℕ) → i < 6 → get_or (take 6 bytes) i 0 ≡ get_or bytes i 0 = λ i h. get_or-take 6 bytes i 0 h in
    rw (at 2 (lit< tt), at 3 (lit< tt), at 4 (lit< tt), at 5 (lit< tt))

-- a chunk of n bytes, or of all that are left
chunk_is : (n : ℕ) (chunk after : List ℕ) → length chunk ≡ min n (length (chunk ++ after)) → chunk ≡ take n (chunk ++ after)
chunk_is n chunk after h =
    let l = length-append chunk after in
    elim (cases_lt (length chunk) n) [
      | inl short ↦
          let e : chunk ++ after ≡ chunk = ap (λ (z : List ℕ). chunk ++ z) (nil_from_length after (omega arith)) ∙ append-nil chunk in
          sym (ap (take n) e ∙ take_all n chunk (omega arith))
      | inr full ↦ sym (take_at chunk after n (omega arith))
    ]

-- the bytes of the slice that begins after k records, and those after one record more
pub slice_past : (g : Group) (size n k : ℕ) (bytes : List ℕ) → size ≡ (layout g).size → n ≡ k → take (length bytes - size * n) (drop (size * n) bytes) ≡ past g k bytes
slice_past g size n k bytes e f = take_rest bytes (size * n) ∙ ap (λ (s : ℕ). drop (s * n) bytes) e ∙ ap (λ (n : ℕ). past g n bytes) f

times_more : (n k : ℕ) → n * k + n ≡ n * (k + 1)
times_more n k = sym (ap (λ (m : ℕ). n * m) (add-one k) ∙ mul-suc n k)

pub past_more : (g : Group) (k : ℕ) (bytes : List ℕ) → drop (layout g).size (past g k bytes) ≡ past g (k + 1) bytes
past_more g k bytes = drop-drop (layout g).size ((layout g).size * k) bytes ∙ ap (λ (n : ℕ). drop n bytes) (times_more (layout g).size k)

marked_none : (g : Group) → marked g [] ≡ false
marked_none Rule = refl
marked_none Factory = refl
marked_none Site = refl

-- k records of the group are passed, and the chunks that are left are those of the bytes after them
pub record Chunked (g : Group) (bytes : List ℕ) (size : ℕ) (rest : List ℕ) (k : ℕ) : Type 0 where
  pub sized : size ≡ (layout g).size
  pub behind : rest ≡ past g k bytes
  pub inside : (layout g).size * k ≤ length bytes

pub chunked_none : (g : Group) (bytes : List ℕ) (size : ℕ) → size ≡ (layout g).size → Chunked g bytes size bytes 0
chunked_none g bytes size e =
    let none : 0 ≡ (layout g).size * 0 = omega arith in
    record { sized = e; behind = ap (λ (n : ℕ). drop n bytes) none; inside = omega arith }

module _ {g : Group} {bytes : List ℕ} {size : ℕ} {rest : List ℕ} {k : ℕ} (c : Chunked g bytes size rest k) where
  -- the bytes end
  pub chunked_end : length rest ≡ 0 → (length bytes / size ≡ k) × Ends g k bytes × (length bytes ≡ (layout g).size * k)
  chunked_end none =
      let none_left : length (past g k bytes) ≡ 0 = ap length (sym c.behind) ∙ none in
      let full : length bytes ≡ (layout g).size * k = omega (arith, c.inside, length-drop ((layout g).size * k) bytes) in (
        ap (λ (n : ℕ). length bytes / n) c.sized ∙ ap (λ (n : ℕ). n / (layout g).size) full ∙ mul-div_cancel_left k (some_size g),
        record { inside = c.inside; unmarked = ap (marked g) (nil_from_length (past g k bytes) none_left) ∙ marked_none g },
        full,
      )

  module _ (chunk after : List ℕ) (cut : rest ≡ chunk ++ after) (long : length chunk ≡ min size (length rest)) where
    pub chunk_there : chunk ≡ take (layout g).size (past g k bytes)
    chunk_there =
        let l : length chunk ≡ min (layout g).size (length (chunk ++ after)) = long ∙ ap (λ (n : ℕ). min n (length rest)) c.sized ∙ ap (λ (z : List ℕ). min (layout g).size (length z)) cut in
        chunk_is (layout g).size chunk after l ∙ ap (take (layout g).size) (sym cut ∙ c.behind)

    pub chunk_marked : marked g chunk ≡ marked g (past g k bytes)
    chunk_marked = ap (marked g) chunk_there ∙ front_marked g (past g k bytes)

    -- no record of the group stands there
    pub chunk_ends : false ≡ marked g chunk → Ends g k bytes
    chunk_ends m = record { inside = c.inside; unmarked = sym (m ∙ chunk_marked) }

    -- a whole record stands there
    pub chunked_more : whole g (past g k bytes) ≡ true → Chunked g bytes size after (k + 1)
    chunked_more w =
        let there = past g k bytes in
        let some : (layout g).size ≤ length there = leb-true (layout g).size (length there) w in
        let size_of : length chunk ≡ (layout g).size = ap length chunk_there ∙ length-take-le (layout g).size there some in
        record {
          sized = c.sized;
          behind = sym (drop_at chunk after (layout g).size size_of) ∙ ap (drop (layout g).size) (sym cut ∙ c.behind) ∙ past_more g k bytes;
          inside = omega (arith, c.inside, some, length-drop ((layout g).size * k) bytes, times_more (layout g).size k);
        }
