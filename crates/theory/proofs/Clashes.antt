-- Paths in the graph of pairs of classes are clashes, and every clash has a path that is no longer.
use Rattle.std.proofs.Common.{◌≡◌, ℕ, ◌≤◌, Bool, true, List, [], ◌∷◌, length, le_trans, le_refl}
use mathlib.Core.Option.{Option, none, some}
use native.Mathlib.Nat.{le_step}
use Rattle.terms.specs.Worlds.{Rule}
use Rattle.terms.specs.Facts.{Claim}
use Rattle.terms.specs.Verdicts.{Clash, Stands, Shortest}
use Rattle.theory.specs.Tables.{Tables, Exact, steps, follow}
use Rattle.theory.specs.Paths.{stay, PairPath, Reaches}
use Rattle.theory.proofs.Follow.{steps_way, forced}
use Rattle.theory.specs.Legal.{RulesLegal}
use Rattle.theory.proofs.Sound.{way_sound, known_sound}

pub path_clash : {R : List Rule} {F : List Claim} (p : ℕ) (w : List ℕ) (i : ℕ) → Reaches R F p w i → Clash R F p w i
path_clash p w i r = let q = r.path in
    record {
      left = r.left;
      right = r.right;
      row = r.row;
      both = λ W k.
          (way_sound W k.rules q.way_a _ (known_sound k q.in_a), way_sound W k.rules q.way_b _ (known_sound k q.in_b));
    }

module _ {R : List Rule} {F : List Claim} {t : Tables} (l : RulesLegal R) (x : Exact R F t) where
  -- what the tables say of two classes after one word comes by a path that is no longer
  told_path : (w : List ℕ) (p A B : ℕ) → follow t p w A ≡ true → follow t p w B ≡ true → (q : ℕ) × (v : List ℕ) × (length v ≤ length w) × PairPath R F q v A B
  told_path [] p A B h h' = (p, [], le_refl 0, record { from_a = A; from_b = B; in_a = (x.has_is p A).0 h; in_b = (x.has_is p B).0 h'; way_a = stay; way_b = stay })
  told_path (f ∷ w) p A B h h' = on (λ v. told_path w v A B) (t.value_of p f) h h'
    where
      tail_or : Option ℕ → ℕ → Bool
      tail_or o C = elim o [ some v ↦ follow t v w C | none ↦ steps t (t.has p) (f ∷ w) C ]

      on : ((v : ℕ) → follow t v w A ≡ true → follow t v w B ≡ true → (q : ℕ) × (v : List ℕ) × (length v ≤ length w) × PairPath R F q v A B)
          → (o : Option ℕ) → tail_or o A ≡ true → tail_or o B ≡ true → (q : ℕ) × (v : List ℕ) × (length v ≤ length (f ∷ w)) × PairPath R F q v A B
      on ih none h h' =
          let r = steps_way l x (t.has p) (f ∷ w) A h in
          let r' = steps_way l x (t.has p) (f ∷ w) B h' in
          (p, f ∷ w, le_refl _, record { from_a = r.0; from_b = r'.0; in_a = (x.has_is p r.0).0 r.1; in_b = (x.has_is p r'.0).0 r'.1; way_a = r.2; way_b = r'.2 })
      on ih (some v) h h' = let r = ih v h h' in (r.0, r.1, le_step r.2, r.3)

  pub clash_path : (p : ℕ) (w : List ℕ) (i : ℕ) → Clash R F p w i → (q : ℕ) × (v : List ℕ) × (length v ≤ length w) × Reaches R F q v i
  clash_path p w i c =
      let h = (forced l x p w c.left).1 (λ W k. (c.both W k).0) in
      let h' = (forced l x p w c.right).1 (λ W k. (c.both W k).1) in
      let r = told_path w (t.leader p) c.left c.right h h' in
      (r.0, r.1, r.2, record { left = c.left; right = c.right; row = c.row; path = r.3 })

  -- a least path is a shortest clash
  pub least_path : (p : ℕ) (w : List ℕ) (i : ℕ) → Reaches R F p w i
      → ((q : ℕ) (v : List ℕ) (j : ℕ) → Reaches R F q v j → length w ≤ length v) → Shortest R F p w i
  least_path p w i r least =
      record { clash = path_clash p w i r; least = λ q v j c. let s = clash_path q v j c in le_trans (least s.0 s.1 j s.3) s.2 }

  -- no path, no clash
  pub no_path : ((p : ℕ) (w : List ℕ) (i : ℕ) → ¬ Reaches R F p w i) → Stands R F
  no_path n p w i c = let s = clash_path p w i c in n s.0 s.1 i s.3
