-- Turns of the loops: what is still to do, and one pair more that is met.
use Rattle.std.proofs.Common.{◌≡◌, ℕ, ◌+◌, ◌^◌, ◌<◌, ◌≤◌, true, not, ◌&&◌, ◌⊎◌, List, [], ◌∷◌, ◌++◌, length, set, Some, Option, sym, ap, ◌∙◌, subst, inl, inr, append_assoc, arith}
use Rattle.std.proofs.lemmas.List.{length_push}
use Rattle.std.proofs.lemmas.Bool.{cases_eq, cases_Bool, both_ways, ne_eqb, eqb-false, and_parts, and_from, not-true, not_from_false}
use Rattle.classes.specs.declared.ClassSet.{ClassSet}
use Rattle.classes.specs.Sets.{has, none, weight, Took}
use Rattle.classes.proofs.Members.{not_in_none, has_low}
use Rattle.book.specs.declared.sealed.Book.{Book}
use Rattle.book.specs.Tables.{set_at}
use Rattle.search.specs.declared.ClassPair.{ClassPair}
use Rattle.search.specs.declared.trail.Trace.{Trace}
use Rattle.search.specs.Graph.{Reaches}
use Rattle.search.specs.Pairs.{Proper, ordered, place_of, entry_of, mark, mark_of, unmarked, Partners}
use Rattle.search.specs.Rows.{Excludes}
use Rattle.search.specs.Search.{Waits, Near, Source, Stepped, Linked, Met, Shown}
use Rattle.search.proofs.Pairs.{ordered_proper, partner_one}
use Rattle.search.proofs.Marking.{new_entry, old_entry, near_stays, one_fewer, other_entry, was_met}

-- the line
waits_push : (ps : List ClassPair) (p q : ClassPair) → Waits ps q → Waits (ps ++ p ∷ []) q
waits_push [] p q m = elim m [ ]
waits_push (x ∷ ps) p q (inl e) = inl e
waits_push (x ∷ ps) p q (inr m) = inr (waits_push ps p q m)

waits_last : (ps : List ClassPair) (p q : ClassPair) → p ≡ q → Waits (ps ++ p ∷ []) q
waits_last [] p q e = inl e
waits_last (x ∷ ps) p q e = inr (waits_last ps p q e)

pub waits_cases : (ps rs : List ClassPair) (q : ClassPair) → Waits (ps ++ rs) q → Waits ps q ⊎ Waits rs q
waits_cases [] rs q m = inr m
waits_cases (x ∷ ps) rs q (inl e) = inl (inl e)
waits_cases (x ∷ ps) rs q (inr m) = elim (waits_cases ps rs q m) [ inl a ↦ inl (inl_rest a) | inr b ↦ inr b ]
  where
    inl_rest : Waits ps q → (x ≡ q) ⊎ Waits ps q
    inl_rest a = inr a

-- each pair of classes that A asks for is still to do, or is met with a mark of at most n
abbrev pub Done : (ℕ → ℕ → ℕ → Type 0) → (ℕ → ℕ → ℕ → Type 0) → List (Option Trace) → ℕ → Type 0
Done A Todo T n = (g c d : ℕ) → A g c d → Todo g c d ⊎ Near T (ordered c d) n

-- still to do: the numbers from k on
abbrev pub From : ℕ → ℕ → ℕ → ℕ → Type 0
From k g c d = k ≤ g

-- besides, at k itself the classes of s
abbrev pub Rows : ℕ → ClassSet → ℕ → ℕ → ℕ → Type 0
Rows k s g c d = (k < g) ⊎ ((g ≡ k) × (has s c ≡ true))

-- besides, with class a the partners of r
abbrev pub Cells : ℕ → ClassSet → ℕ → ClassSet → ℕ → ℕ → ℕ → Type 0
Cells k s a r g c d = (k < g) ⊎ ((g ≡ k) × ((has s c ≡ true) ⊎ ((c ≡ a) × (has r d ≡ true))))

-- what is left once the lowest class is taken
left_over : {s t : ClassSet} {k : ℕ} (c : ℕ) → Took s k t → has s c ≡ true → (c ≡ k → ⊥) → has t c ≡ true
left_over {k} c w h ne = w.rest c ∙ and_from _ _ h (not_from_false _ (ne_eqb c k ne))

pub was_there : {s t : ClassSet} {k : ℕ} (c : ℕ) → Took s k t → has t c ≡ true → (has s c ≡ true) × (c ≡ k → ⊥)
was_there {k} c w h =
    let p = and_parts _ _ (sym (w.rest c) ∙ h) in (p.0, eqb-false c k (not-true _ p.1))

module _ (A : ℕ → ℕ → ℕ → Type 0) (T : List (Option Trace)) (n k : ℕ) where
  pub done_first : Done A (From 0) T n
  done_first g c d h = inl (omega arith)

  pub done_rows : (s : ClassSet) → Done A (From k) T n → ((c d : ℕ) → A k c d → has s c ≡ true) → Done A (Rows k s) T n
  done_rows s h f g c d x = elim (h g c d x) [
    | inl l ↦ elim (cases_eq g k) [
      | inl e ↦ inl (inr (e, f c d (subst (λ j. A j c d) e x)))
      | inr ne ↦ inl (inl (omega arith))
    ]
    | inr y ↦ inr y
  ]

  pub done_cells : (s s' : ClassSet) (a : ℕ) (r : ClassSet) → Took s a s' → Done A (Rows k s) T n
      → ((d : ℕ) → A k a d → (has r d ≡ true) ⊎ Near T (ordered a d) n) → Done A (Cells k s' a r) T n
  done_cells s s' a r w h f g c d x = elim (h g c d x) [
    | inl y ↦ elim y [
      | inl lt ↦ inl (inl lt)
      | inr z ↦ elim (cases_eq c a) [
        | inl e ↦ elim (f d (subst (λ j. A k j d) e (subst (λ j. A j c d) z.0 x))) [
          | inl m ↦ inl (inr (z.0, inr (e, m)))
          | inr m ↦ inr (subst (λ j. Near T (ordered j d) n) (sym e) m)
        ]
        | inr ne ↦ inl (inr (z.0, inl (left_over c w z.1 ne)))
      ]
    ]
    | inr y ↦ inr y
  ]

  pub done_next : (T' : List (Option Trace)) (s : ClassSet) (a : ℕ) (r r' : ClassSet) (e : ℕ) → Took r e r' → ((q : ClassPair) → Near T q n → Near T' q n) → Near T' (ordered a e) n
      → Done A (Cells k s a r) T n → Done A (Cells k s a r') T' n
  done_next T' s a r r' e w on new h g c d x = elim (h g c d x) [
    | inl y ↦ elim y [
      | inl lt ↦ inl (inl lt)
      | inr z ↦ elim z.1 [
        | inl m ↦ inl (inr (z.0, inl m))
        | inr m ↦ elim (cases_eq d e) [
          | inl i ↦ inr (subst (λ j. Near T' (ordered j d) n) (sym m.0) (subst (λ j. Near T' (ordered a j) n) (sym i) new))
          | inr ne ↦ inl (inr (z.0, inr (m.0, left_over d w m.1 ne)))
        ]
      ]
    ]
    | inr y ↦ inr (on (ordered c d) y)
  ]

  pub done_row : (s : ClassSet) (a : ℕ) (r : ClassSet) → r ≡ none → Done A (Cells k s a r) T n → Done A (Rows k s) T n
  done_row s a r e h g c d x = elim (h g c d x) [
    | inl y ↦ elim y [
      | inl lt ↦ inl (inl lt)
      | inr z ↦ elim z.1 [ inl m ↦ inl (inr (z.0, m)) | inr m ↦ not_in_none d (subst (λ (x : ClassSet). has x d ≡ true) e m.1) ]
    ]
    | inr y ↦ inr y
  ]

  pub done_all : (s : ClassSet) → s ≡ none → Done A (Rows k s) T n → Done A (From (k + 1)) T n
  done_all s e h g c d x = elim (h g c d x) [
    | inl y ↦ elim y [ inl lt ↦ inl (omega arith) | inr z ↦ not_in_none c (subst (λ (x : ClassSet). has x c ≡ true) e z.1) ]
    | inr y ↦ inr y
  ]

-- the classes of r are in s, and none of them is met with a
pub record Fresh (T : List (Option Trace)) (s : ClassSet) (a : ℕ) (r : ClassSet) : Type 0 where
  pub inside : (d : ℕ) → has r d ≡ true → has s d ≡ true
  pub low : (d : ℕ) → has r d ≡ true → d < 64
  pub new : (d : ℕ) → has r d ≡ true → mark_of T (ordered a d) ≡ 0

-- r is s without the set p of the partners that are met with a
module _ (S : List ClassSet) (T : List (Option Trace)) (s : ClassSet) (a : ℕ) (p r : ClassSet) (ps : Partners S T) (la : a < 64) (is : p ≡ set_at S a) (fits : weight p < 2 ^ 64) (fits' : weight r < 2 ^ 64)
    (m : (k : ℕ) → has r k ≡ (has s k && not (has p k))) where
  was_in : (d : ℕ) → has p d ≡ true → has (set_at S a) d ≡ true
  was_in d h = ap (λ (x : ClassSet). has x d) (sym is) ∙ h

  pub fresh_first : Fresh T s a r
  fresh_first = record {
    inside = λ d h. (parts d h).0;
    low = λ d h. has_low r d fits' h;
    new = λ d h. elim (cases_eq (mark_of T (ordered a d)) 0) [
      | inl e ↦ e
      | inr ne ↦ absurd (both_ways (has p d) (not-true _ (parts d h).1) (ap (λ (x : ClassSet). has x d) is ∙ (ps a d la (has_low r d fits' h)).1 (omega arith)))
    ];
  }
    where
      parts : (d : ℕ) → has r d ≡ true → (has s d ≡ true) × (not (has p d) ≡ true)
      parts d h = and_parts _ _ (sym (m d) ∙ h)

  pub met_or_fresh : (n : ℕ) → ((q : ClassPair) → Proper q → 0 < mark_of T q → mark_of T q ≤ n) → (d : ℕ) → has s d ≡ true → (has r d ≡ true) ⊎ Near T (ordered a d) n
  met_or_fresh n top d h = elim (cases_Bool (has p d)) [
    | inl e ↦
        let ld = has_low p d fits e in
        let pr = ordered_proper a d la ld in
        let mt = (ps a d la ld).0 (was_in d e) in
        inr (record { proper = pr; met = mt; by = top (ordered a d) pr mt })
    | inr e ↦ inl (m d ∙ and_from _ _ h (not_from_false _ e))
  ]

module _ (P : List ClassSet) (b : Book) (N : ClassPair → Type 0) where
  -- the links of the pairs that were met stay when r is met
  module _ (T : List (Option Trace)) (size : length T ≡ 2080) (r : ClassPair) (e : Trace) (fit : Proper r) (z : mark_of T r ≡ 0) where
    abbrev T' : List (Option Trace)
    T' = set T (place_of r) (Some e)

    link_stays : (q : ClassPair) → 0 < mark_of T q → Source P T q ⊎ Stepped b T q → Source P T' q ⊎ Stepped b T' q
    link_stays q h (inl s) = inl (record {
      part = s.part;
      entry = old_entry T size r e fit z q h ∙ s.entry;
      left = s.left;
      right = s.right;
    })
    link_stays q h (inr s) = inr (record {
      depth = s.depth;
      from = s.from;
      letter = s.letter;
      entry = old_entry T size r e fit z q h ∙ s.entry;
      proper = s.proper;
      deep = s.deep;
      before = ap mark (old_entry T size r e fit z s.from (omega (arith, s.before, s.deep))) ∙ s.before;
      edge = s.edge;
    })

    linked_more : Linked P b T → Source P T' r ⊎ Stepped b T' r → Linked P b T'
    linked_more h l q f k = elim (was_met T size r e fit q f k) [
      | inl w ↦ subst (λ (y : ClassPair). Source P T' y ⊎ Stepped b T' y) w l
      | inr w ↦ link_stays q w.0 (h q f w.0)
    ]

  -- the pair r is met with the entry e
  module _ (W : List ClassPair) (T : List (Option Trace)) (depth : ℕ) (m : Met P b N W T depth) (lo : depth + unmarked T ≤ 2081) (size : length T ≡ 2080)
      (r : ClassPair) (e : Trace) (fit : Proper r) (z : mark_of T r ≡ 0) (d : e.depth + 1 ≡ depth)
      (l : Source P (set T (place_of r) (Some e)) r ⊎ Stepped b (set T (place_of r) (Some e)) r) where
    abbrev Tm : List (Option Trace)
    Tm = set T (place_of r) (Some e)

    pub less : unmarked Tm + 1 ≡ unmarked T
    less = one_fewer T size r e fit z

    new_mark : mark_of Tm r ≡ depth
    new_mark = ap mark (new_entry T size r e fit) ∙ d

    was : (q : ClassPair) → Proper q → 0 < mark_of Tm q → (r ≡ q) ⊎ ((0 < mark_of T q) × (entry_of Tm q ≡ entry_of T q))
    was = was_met T size r e fit

    old_mark : (q : ClassPair) → 0 < mark_of T q → mark_of Tm q ≡ mark_of T q
    old_mark q h = ap mark (old_entry T size r e fit z q h)

    -- no row excludes it: it waits
    pub met_more : ((i : ℕ) → Excludes b i r → ⊥) → Met P b N (W ++ r ∷ []) Tm depth
    met_more x = record {
      low = λ q h k. elim (was q h k) [
        | inl w ↦ omega (arith, ap (mark_of Tm) w, new_mark, less, lo)
        | inr w ↦ omega (arith, ap mark w.1, less, m.low q h w.0)
      ];
      linked = linked_more T size r e fit z m.linked l;
      clear = λ q h k. elim (was q h k) [ inl w ↦ λ i y. x i (subst (Excludes b i) (sym w) y) | inr w ↦ m.clear q h w.0 ];
      deep = m.deep;
      top = λ q h k. elim (was q h k) [
        | inl w ↦ omega (arith, ap (mark_of Tm) w, new_mark)
        | inr w ↦ omega (arith, ap mark w.1, m.top q h w.0)
      ];
      near = m.near;
      far = m.far ++ r ∷ [];
      split = ap (λ y. y ++ r ∷ []) m.split ∙ append_assoc m.near m.far (r ∷ []);
      nears = λ q h. let s = m.nears q h in (s.0, omega (arith, old_mark q s.1, s.1), ap (λ n. n + 1) (old_mark q s.1) ∙ s.2);
      fars = λ q h. elim (waits_cases m.far (r ∷ []) q h) [
        | inl a ↦ let s = m.fars q a in let one : 0 < mark_of T q = omega (arith, s.1, m.deep) in (s.0, old_mark q one ∙ s.1)
        | inr a ↦ elim a [ inl w ↦ (subst Proper w fit, ap (mark_of Tm) (sym w) ∙ new_mark) | inr n ↦ elim n [ ] ]
      ];
      closed = λ q h k. elim (was q h k) [
        | inl w ↦ inl (waits_last W r q w)
        | inr w ↦ elim (m.closed q h w.0) [
          | inl a ↦ inl (waits_push W r q a)
          | inr o ↦ elim o [
            | inl c ↦ inr (inl c)
            | inr c ↦ inr (inr (λ f s t u v. subst (λ n. Near Tm (ordered s t) (n + 1)) (sym (old_mark q w.0)) (near_stays T size r e fit z (ordered s t) (mark_of T q + 1) (c f s t u v))))
          ]
        ]
      ];
    }

    -- a row excludes it
    pub shown : (i : ℕ) → Excludes b i r → ((p : ℕ) (w : List ℕ) (j : ℕ) → Reaches P b p w j → depth ≤ length w + 1) → Shown P b Tm r i
    shown i x least = record {
      proper = fit;
      met = omega (arith, new_mark, m.deep);
      low = omega (arith, new_mark, less, lo);
      linked = linked_more T size r e fit z m.linked l;
      row = x;
      least = λ q w j h. omega (arith, new_mark, least q w j h);
    }

    pub new_near : Near Tm r depth
    new_near = record { proper = fit; met = omega (arith, new_mark, m.deep); by = omega (arith, new_mark) }

  -- what the innermost loop keeps, one partner later
  pub record Turned (A : ℕ → ℕ → ℕ → Type 0) (W : List ClassPair) (T : List (Option Trace)) (depth k : ℕ) (s s₀ : ClassSet) (a : ℕ) (r : ClassSet) (before : List (Option Trace)) (total : ℕ) : Type 0 where
    pub met : Met P b N W T depth
    pub done : Done A (Cells k s a r) T depth
    pub fresh : Fresh T s₀ a r
    pub same : length W + unmarked T ≡ total
    pub stays : (q : ClassPair) → 0 < mark_of before q → entry_of T q ≡ entry_of before q

  -- partner d of a is taken, and their pair q is to be met with the entry e
  pub record Turn (W : List ClassPair) (T : List (Option Trace)) (depth : ℕ) (s₀ : ClassSet) (a : ℕ) (r r' : ClassSet) (d : ℕ) (q : ClassPair) (e : Trace) : Type 0 where
    pub met : Met P b N W T depth
    pub room : depth + unmarked T ≤ 2081
    pub size : length T ≡ 2080
    pub fresh : Fresh T s₀ a r
    pub low : a < 64
    pub took : Took r d r'
    pub is : q ≡ ordered a d
    pub deep : e.depth + 1 ≡ depth
    -- the new pair is a source or comes by a step
    pub link : Proper q → mark_of T q ≡ 0 → Source P (set T (place_of q) (Some e)) q ⊎ Stepped b (set T (place_of q) (Some e)) q

module _ {P : List ClassSet} {b : Book} {N : ClassPair → Type 0} {W : List ClassPair} {T : List (Option Trace)} {depth : ℕ} {s₀ : ClassSet} {a : ℕ} {r r' : ClassSet} {d : ℕ} {q : ClassPair} {e : Trace}
    (t : Turn P b N W T depth s₀ a r r' d q e) where
  pub new_pair : mark_of T q ≡ 0
  new_pair = ap (mark_of T) t.is ∙ t.fresh.new d t.took.was

  pub new_proper : Proper q
  new_proper = subst Proper (sym t.is) (ordered_proper a d t.low t.took.low)

  abbrev Tn : List (Option Trace)
  Tn = set T (place_of q) (Some e)

  link : Source P Tn q ⊎ Stepped b Tn q
  link = t.link new_proper new_pair

  fresh_next : Fresh Tn s₀ a r'
  fresh_next = record {
    inside = λ c h. t.fresh.inside c (was_there c t.took h).0;
    low = λ c h. t.fresh.low c (was_there c t.took h).0;
    new = λ c h. let x = was_there c t.took h in
        elim (other_entry T t.size q e new_proper (ordered a c) (ordered_proper a c t.low (t.fresh.low c x.0))) [
          | inl y ↦ absurd (x.1 (sym (partner_one a d c (sym t.is ∙ y))))
          | inr o ↦ ap mark o ∙ t.fresh.new c x.0
        ];
  }

  module _ {T' : List (Option Trace)} (k' : T' ≡ set T (place_of q) (Some e)) where
    pub turned : (A : ℕ → ℕ → ℕ → Type 0) (k : ℕ) (s : ClassSet) {W' : List ClassPair} → W' ≡ W ++ q ∷ [] → ((i : ℕ) → Excludes b i q → ⊥)
        → Done A (Cells k s a r) T depth → Turned P b N A W' T' depth k s s₀ a r' T (length W + unmarked T)
    turned A k s {W'} ew x dn =
        let mm : Met P b N (W ++ q ∷ []) Tn depth = met_more P b N W T depth t.met t.room t.size q e new_proper new_pair t.deep link x in
        let nn : Near Tn (ordered a d) depth = subst (λ (y : ClassPair). Near Tn y depth) t.is (new_near P b N W T depth t.met t.room t.size q e new_proper new_pair t.deep link) in
        let dd : Done A (Cells k s a r') Tn depth = done_next A T depth k Tn s a r r' d t.took (λ y. near_stays T t.size q e new_proper new_pair y depth) nn dn in
        let ls : unmarked Tn + 1 ≡ unmarked T = one_fewer T t.size q e new_proper new_pair in
        record {
          met = subst (λ (X : List (Option Trace)). Met P b N W' X depth) (sym k') (subst (λ (X : List ClassPair). Met P b N X Tn depth) (sym ew) mm);
          done = subst (λ (X : List (Option Trace)). Done A (Cells k s a r') X depth) (sym k') dd;
          fresh = subst (λ (X : List (Option Trace)). Fresh X s₀ a r') (sym k') fresh_next;
          same = omega (arith, ap length ew, ap unmarked k', length_push W q, ls);
          stays = λ y h. ap (λ (X : List (Option Trace)). entry_of X y) k' ∙ old_entry T t.size q e new_proper new_pair y h;
        }

    pub struck : (i : ℕ) → Excludes b i q → ((p : ℕ) (v : List ℕ) (j : ℕ) → Reaches P b p v j → depth ≤ length v + 1) → Shown P b T' q i
    struck i x least = subst (λ (X : List (Option Trace)). Shown P b X q i) (sym k')
        (shown P b N W T depth t.met t.room t.size q e new_proper new_pair t.deep link i x least)
