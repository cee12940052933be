-- Working on a pair that left the line, and what an empty line says.
use Rattle.std.proofs.Common.{◌≡◌, ℕ, ◌+◌, ◌<◌, ◌≤◌, true, ◌&&◌, ltb, ◌⊎◌, List, [], ◌∷◌, ◌++◌, length, set, Some, Option, sym, refl, ap, ◌∙◌, subst, inl, inr, append-nil, arith}
use Rattle.std.proofs.lemmas.Bool.{cases_lt, le-ltb, and_right, cond-false}
use Rattle.classes.specs.declared.ClassSet.{ClassSet}
use Rattle.classes.specs.Sets.{has, none, Took}
use Rattle.classes.proofs.Members.{not_in_none}
use Rattle.book.specs.declared.sealed.Book.{Book}
use Rattle.book.specs.Books.{leads_set}
use Rattle.search.specs.declared.ClassPair.{ClassPair}
use Rattle.search.specs.declared.trail.Trace.{Trace}
use Rattle.search.specs.declared.trail.Origin.TheVariants.{Step}
use Rattle.search.specs.Graph.{Lead, Way, stay, go, Reaches}
use Rattle.search.specs.Pairs.{Proper, ordered, place_of, entry_of, mark, mark_of, unmarked}
use Rattle.search.specs.Rows.{Excludes}
use Rattle.search.specs.Search.{Waits, Near, Source, Stepped, Closed, Met, Sources, Between}
use Rattle.search.proofs.Pairs.{ordered_up, ordered_down, ordered_sym}
use Rattle.search.proofs.Marking.{new_entry, old_entry}
use Rattle.search.proofs.Turns.{Done, From, Fresh, Turn, waits_cases}

-- the two classes of p lead by f to c and d
abbrev pub Led : Book → ClassPair → ℕ → ℕ → ℕ → Type 0
Led b p f c d = Lead b p.left f c × Lead b p.right f d

-- while the pair p, which has this mark, is worked on
pub record AtWork (P : List ClassSet) (b : Book) (W : List ClassPair) (T : List (Option Trace)) (p : ClassPair) (depth : ℕ) : Type 0 where
  pub met : Met P b (λ q. p ≡ q) W T (depth + 1)
  pub sources : Sources P T
  pub proper : Proper p
  pub at : mark_of T p ≡ depth
  pub some : 0 < depth

lead_low : (b : Book) (x f c : ℕ) → Lead b x f c → f < 16
lead_low b x f c h = elim (cases_lt f 16) [
  | inl l ↦ l
  | inr g ↦
      let e : leads_set b x f ≡ none = cond-false (ltb x 64 && ltb f 16) _ none (and_right (ltb x 64) (ltb f 16) (le-ltb f 16 g)) in
      not_in_none c (subst (λ (s : ClassSet). has s c ≡ true) e h)
]

-- all that a closed pair leads to is met, whichever of its classes comes first
closed_both : (b : Book) (T : List (Option Trace)) (x y f c d : ℕ) → Closed b T (ordered x y) → Lead b x f c → Lead b y f d → Near T (ordered c d) (mark_of T (ordered x y) + 1)
closed_both b T x y f c d k u v = elim (cases_lt y x) [
  | inl lt ↦
      let e = ordered_down x y lt in
      subst (λ (z : ClassPair). Near T z (mark_of T (ordered x y) + 1)) (ordered_sym d c)
      (subst (λ (z : ClassPair). Near T (ordered d c) (mark_of T z + 1)) (sym e) (subst (Closed b T) e k f d c v u))
  | inr ge ↦
      let e = ordered_up x y ge in
      subst (λ (z : ClassPair). Near T (ordered c d) (mark_of T z + 1)) (sym e) (subst (Closed b T) e k f c d u v)
]

module _ (P : List ClassSet) (b : Book) where
  excluded : (p : ℕ) (w : List ℕ) (i : ℕ) (r : Reaches P b p w i) → Excludes b i (ordered r.left r.right)
  excluded p w i r = record { left = r.left; right = r.right; rule = r.row; both = refl }

  -- the line is empty: all that is reached is met
  all_met : (T : List (Option Trace)) → Between P b [] T → (x y n : ℕ) {c d : ℕ} {w : List ℕ} → Near T (ordered x y) n → Way b x w c → Way b y w d
      → Proper (ordered c d) × (0 < mark_of T (ordered c d))
  all_met T o x y n nr stay stay = (nr.proper, nr.met)
  all_met T o x y n nr (go {f = f} {C = c} l u) (go {C = d} l' u') =
      elim (o.met.closed (ordered x y) nr.proper nr.met) [
        | inl i ↦ elim i [ ]
        | inr z ↦ elim z [ inl i ↦ elim i [ ] | inr k ↦ all_met T o c d (mark_of T (ordered x y) + 1) (closed_both b T x y f c d k l l') u u' ]
      ]

  pub no_path : (W : List ClassPair) (T : List (Option Trace)) → W ≡ [] → Between P b W T → (p : ℕ) (w : List ℕ) (i : ℕ) → Reaches P b p w i → ⊥
  no_path W T e n p w i r =
      let o = subst (λ (X : List ClassPair). Between P b X T) e n in
      let s = all_met T o r.from_left r.from_right 1 (o.sources p r.from_left r.from_right r.in_left r.in_right) r.way_left r.way_right in
      o.met.clear (ordered r.left r.right) s.0 s.1 i (excluded p w i r)

  -- a pair leaves the line
  popped : (W : List ClassPair) (T : List (Option Trace)) (p : ClassPair) → Between P b (p ∷ W) T → AtWork P b W T p (mark_of T p)
  popped W T p o = by o.met.near o.met.far o.met.split o.met.nears o.met.fars
    where
      work : (near far : List ClassPair) → W ≡ near ++ far → Proper p → 0 < mark_of T p → o.depth ≤ mark_of T p + 1
          → ((q : ClassPair) → Waits near q → Proper q × (0 < mark_of T q) × (mark_of T q + 1 ≡ mark_of T p + 1))
          → ((q : ClassPair) → Waits far q → Proper q × (mark_of T q ≡ mark_of T p + 1)) → AtWork P b W T p (mark_of T p)
      work near far e fit ps tp ns fs = record {
        met = record {
          low = o.met.low;
          linked = o.met.linked;
          clear = o.met.clear;
          deep = omega arith;
          top = λ q h k. omega (arith, o.met.top q h k);
          near = near;
          far = far;
          split = e;
          nears = ns;
          fars = fs;
          closed = λ q h k. elim (o.met.closed q h k) [
            | inl x ↦ elim x [ inl y ↦ inr (inl y) | inr y ↦ inl y ]
            | inr x ↦ elim x [ inl y ↦ elim y [ ] | inr y ↦ inr (inr y) ]
          ];
        };
        sources = o.sources;
        proper = fit;
        at = refl;
        some = ps;
      }

      by : (near far : List ClassPair) → p ∷ W ≡ near ++ far
          → ((q : ClassPair) → Waits near q → Proper q × (0 < mark_of T q) × (mark_of T q + 1 ≡ o.depth))
          → ((q : ClassPair) → Waits far q → Proper q × (mark_of T q ≡ o.depth)) → AtWork P b W T p (mark_of T p)
      by [] far e ns fs =
          let x = fs p (subst (λ z. Waits z p) e (inl refl)) in
          let s : 0 < mark_of T p = omega (arith, x.1, o.met.deep) in
          work W [] (sym (append-nil W)) x.0 s (omega (arith, x.1))
          (λ q h. let y = fs q (subst (λ z. Waits z q) e (inr h)) in (y.0, omega (arith, x.1, y.1, s), ap (λ n. n + 1) (y.1 ∙ sym x.1)))
          (λ q h. elim h [ ])
      by (n ∷ near) far e ns fs =
          let pn : p ≡ n = cc in
          let x = ns p (inl (sym pn)) in
          work near far (cc) x.0 x.1 (omega (arith, x.2))
          (λ q h. let y = ns q (inr h) in (y.0, y.1, y.2 ∙ sym x.2))
          (λ q h. let y = fs q h in (y.0, y.1 ∙ sym x.2))

  pub taken : (W W' : List ClassPair) (T : List (Option Trace)) (p : ClassPair) (depth : ℕ) → Between P b W T → W ≡ p ∷ W' → mark_of T p ≡ depth → AtWork P b W' T p depth
  taken W W' T p depth o e k = subst (λ n. AtWork P b W' T p n) k (popped W' T p (subst (λ (z : List ClassPair). Between P b z T) e o))

  -- all that the pair leads to is met
  pub worked : (W : List ClassPair) (T : List (Option Trace)) (p : ClassPair) (depth : ℕ) → AtWork P b W T p depth
      → (n : ℕ) → 16 ≤ n → Done (Led b p) (From n) T (depth + 1) → Between P b W T
  worked W T p depth m n l d = record {
    depth = depth + 1;
    sources = m.sources;
    met = record {
      low = m.met.low;
      linked = m.met.linked;
      clear = m.met.clear;
      deep = m.met.deep;
      top = m.met.top;
      near = m.met.near;
      far = m.met.far;
      split = m.met.split;
      nears = m.met.nears;
      fars = m.met.fars;
      closed = λ q h k. elim (m.met.closed q h k) [
        | inl x ↦ inl x
        | inr x ↦ elim x [
          | inl y ↦ inr (inr (subst (Closed b T) y (λ f s t u v. elim (d f s t (u, v)) [
            | inl g ↦ let low = lead_low b p.left f s u in absurd (omega arith)
            | inr w ↦ subst (λ j. Near T (ordered s t) (j + 1)) (sym m.at) w
          ])))
          | inr y ↦ inr (inr y)
        ]
      ];
    };
  }

  module _ {W : List ClassPair} {T : List (Option Trace)} {p : ClassPair} {depth : ℕ} (m : AtWork P b W T p depth) where
    -- what lies less deep than p is met
    short : (k x y : ℕ) {c d : ℕ} {w : List ℕ} → Near T (ordered x y) (k + 1) → Way b x w c → Way b y w d → k + length w < depth
        → Proper (ordered c d) × (0 < mark_of T (ordered c d))
    short k x y nr stay stay h = (nr.proper, nr.met)
    short k x y nr (go {f = f} {C = c} {w = w} l u) (go {C = d} l' u') h =
        let low : mark_of T (ordered x y) < depth = omega (arith, nr.by, h) in
        elim (m.met.closed (ordered x y) nr.proper nr.met) [
          | inl i ↦ absurd (elim (waits_cases m.met.near m.met.far (ordered x y) (subst (λ z. Waits z (ordered x y)) m.met.split i)) [
            | inl z ↦ omega (arith, (m.met.nears (ordered x y) z).2, low)
            | inr z ↦ omega (arith, (m.met.fars (ordered x y) z).1, low)
          ])
          | inr o ↦ elim o [
            | inl i ↦ absurd (omega (arith, ap (mark_of T) i, m.at, low))
            | inr z ↦
                let n = closed_both b T x y f c d z l l' in
                short (k + 1) c d (record { proper = n.proper; met = n.met; by = omega (arith, n.by, nr.by) }) u u' (omega (arith, h))
          ]
        ]

    pub least : (q : ℕ) (w : List ℕ) (j : ℕ) → Reaches P b q w j → depth + 1 ≤ length w + 1
    least q w j r = elim (cases_lt (length w) depth) [
      | inl lt ↦ absurd (
          let s = short 0 r.from_left r.from_right (m.sources q r.from_left r.from_right r.in_left r.in_right) r.way_left r.way_right (omega arith) in
          m.met.clear (ordered r.left r.right) s.0 s.1 j (excluded q w j r))
      | inr ge ↦ omega arith
    ]

    pub low : depth + 1 + unmarked T ≤ 2081
    low = omega (arith, m.met.low p m.proper (omega (arith, m.at, m.some)), m.at)

    abbrev pub next : ℕ → Trace
    next f = record { depth = depth; origin = Step p f }

    pub step_link : length T ≡ 2080 → (f c d : ℕ) (q : ClassPair) → Proper q → mark_of T q ≡ 0 → q ≡ ordered c d → Led b p f c d
        → Source P (set T (place_of q) (Some (next f))) q ⊎ Stepped b (set T (place_of q) (Some (next f))) q
    step_link size f c d q fit z is l = inr (record {
      depth = depth;
      from = p;
      letter = f;
      entry = new_entry T size q (next f) fit;
      proper = m.proper;
      deep = m.some;
      before = ap mark (old_entry T size q (next f) fit z p (omega (arith, m.at, m.some))) ∙ m.at;
      edge = record { c = c; d = d; left = l.0; right = l.1; ends = sym is };
    })

    -- the pair is still worked on when others are met
    pub goes_on : {W' : List ClassPair} {T' : List (Option Trace)} → Met P b (λ q. p ≡ q) W' T' (depth + 1)
        → ((q : ClassPair) → 0 < mark_of T q → entry_of T' q ≡ entry_of T q) → AtWork P b W' T' p depth
    goes_on x stays = record {
      met = x;
      sources = λ q c d h k. let n = m.sources q c d h k in let e = ap mark (stays (ordered c d) n.met) in
          record { proper = n.proper; met = omega (arith, n.met, e); by = omega (arith, n.by, e) };
      proper = m.proper;
      at = ap mark (stays p (omega (arith, m.at, m.some))) ∙ m.at;
      some = m.some;
    }

    -- partner d of class c is taken, and their pair q is to be met
    pub pair : length T ≡ 2080 → (f : ℕ) {c : ℕ} {r r' : ClassSet} {d : ℕ} {q : ClassPair} → c < 64 → Lead b p.left f c → Fresh T (leads_set b p.right f) c r → Took r d r' → q ≡ ordered c d
        → Turn P b (λ x. p ≡ x) W T (depth + 1) (leads_set b p.right f) c r r' d q (next f)
    pair size f {c = c} {d = d} {q = q} lc ld fr w is = record {
      met = m.met;
      room = low;
      size = size;
      fresh = fr;
      low = lc;
      took = w;
      is = is;
      deep = refl;
      link = λ fit z. step_link size f c d q fit z is (ld, fr.inside d w.was);
    }
