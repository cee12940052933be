-- A shortest clash word has at most 2,079 letters: a longer path is twice at one pair of classes, and can be cut.
use Rattle.std.proofs.Common.{◌≡◌, ℕ, zero, suc, ◌<◌, ◌≤◌, ◌⊎◌, List, ◌++◌, length, take, drop, subst, inl, inr, le_trans, arith, length-append, length-drop, length-take}
use Rattle.std.proofs.lemmas.Bool.{cases_lt}
use Rattle.terms.specs.Worlds.{Rule}
use Rattle.terms.specs.Facts.{Claim}
use Rattle.terms.specs.Verdicts.{Shortest}
use Rattle.theory.specs.Legal.{Legal, RulesLegal}
use Rattle.theory.specs.Tables.{Tables, Exact}
use Rattle.theory.specs.Paths.{Way, stay, go, PairPath, Reaches}
use Rattle.theory.specs.Theorems.{ClashesArePaths}
use Rattle.theory.proofs.Clashes.{path_clash, clash_path, least_path, no_path}
use Rattle.theory.proofs.Pigeon.{pigeonhole}
use Rattle.theory.proofs.Range.{leads_range, known_range}
use Rattle.theory.proofs.Triangle.{pair_number, pair_number_one, pair_number_low}

-- the class at a place of a way
class_at : {R : List Rule} {A B : ℕ} {w : List ℕ} → Way R A w B → ℕ → ℕ
class_at {A = A} stay i = A
class_at {A = A} (go d s) zero = A
class_at (go d s) (suc i) = class_at s i

-- the way to a place, and the way from it
front : {R : List Rule} {A B : ℕ} {w : List ℕ} (s : Way R A w B) (i : ℕ) → Way R A (take i w) (class_at s i)
unfolding class_at
front stay zero = stay
front stay (suc i) = stay
front (go d s) zero = stay
front (go d s) (suc i) = go d (front s i)

rest : {R : List Rule} {A B : ℕ} {w : List ℕ} (s : Way R A w B) (i : ℕ) → Way R (class_at s i) (drop i w) B
unfolding class_at
rest stay zero = stay
rest stay (suc i) = stay
rest (go d s) zero = go d s
rest (go d s) (suc i) = rest s i

pub way_join : {R : List Rule} {A C B : ℕ} {u v : List ℕ} → Way R A u C → Way R C v B → Way R A (u ++ v) B
way_join stay t = t
way_join (go d s) t = go d (way_join s t)

-- two ways along one word, the second taken on from where the first is at a place
cut : {R : List Rule} {A B A' B' : ℕ} {w : List ℕ} (s : Way R A w B) (t : Way R A' w B') (i j : ℕ) → class_at s i ≡ class_at t j → Way R A (take i w ++ drop j w) B'
cut {R = R} {A = A} {w = w} s t i j e = way_join (subst (Way R A (take i w)) e (front s i)) (rest t j)

cut_shorter : (w : List ℕ) (i j : ℕ) → i < j → j ≤ length w → length (take i w ++ drop j w) < length w
cut_shorter w i j h k = simp (length-append, length-take, length-drop) (omega arith)

class_low : {R : List Rule} (l : RulesLegal R) {A B : ℕ} {w : List ℕ} (s : Way R A w B) (i : ℕ) → A < 64 → class_at s i < 64
unfolding class_at
class_low l stay i h = h
class_low l (go d s) zero h = h
class_low l (go d s) (suc i) h = class_low l s i (leads_range l d).2

module _ {R : List Rule} {F : List Claim} (l : Legal R F) where
  -- the number of the pair at a place of a path
  pair_at : {p : ℕ} {w : List ℕ} {A B : ℕ} → PairPath R F p w A B → ℕ → ℕ
  pair_at s i = pair_number (class_at s.way_a i) (class_at s.way_b i)

  pair_low : {p : ℕ} {w : List ℕ} {A B : ℕ} (s : PairPath R F p w A B) (i : ℕ) → pair_at s i < 2080
  unfolding pair_at
  pair_low s i = pair_number_low _ _
      (class_low l.rules s.way_a i (known_range l s.in_a).1) (class_low l.rules s.way_b i (known_range l s.in_b).1)

  -- a path that is twice at one pair, cut between
  path_cut : {p : ℕ} {w : List ℕ} {A B : ℕ} (s : PairPath R F p w A B) (i j : ℕ) → pair_at s i ≡ pair_at s j → PairPath R F p (take i w ++ drop j w) A B
  unfolding pair_at
  path_cut {p} {w} {A} {B} s i j e = on (pair_number_one _ _ _ _ e)
    where
      on : ((class_at s.way_a i ≡ class_at s.way_a j) × (class_at s.way_b i ≡ class_at s.way_b j))
          ⊎ ((class_at s.way_a i ≡ class_at s.way_b j) × (class_at s.way_b i ≡ class_at s.way_a j)) → PairPath R F p (take i w ++ drop j w) A B
      on (inl r) = record { from_a = s.from_a; from_b = s.from_b; in_a = s.in_a; in_b = s.in_b; way_a = cut s.way_a s.way_a i j r.0; way_b = cut s.way_b s.way_b i j r.1 }
      on (inr r) = record { from_a = s.from_b; from_b = s.from_a; in_a = s.in_b; in_b = s.in_a; way_a = cut s.way_b s.way_a i j r.1; way_b = cut s.way_a s.way_b i j r.0 }

  -- a path with 2,080 letters or more is not the shortest
  pub path_shorter : (p : ℕ) (w : List ℕ) (i : ℕ) → Reaches R F p w i → 2080 ≤ length w → (v : List ℕ) × (length v < length w) × Reaches R F p v i
  path_shorter p w i r h =
      let s = r.path in
      let t = pigeonhole 2080 (pair_at s) (λ k n. pair_low s k) in
      let m : t.1 ≤ length w = le_trans t.3 h in (
        take t.0 w ++ drop t.1 w,
        cut_shorter w t.0 t.1 t.2 m,
        record { left = r.left; right = r.right; row = r.row; path = path_cut s t.0 t.1 t.4 },
      )

  pub word_bound : {t : Tables} → Exact R F t → (p : ℕ) (w : List ℕ) (i : ℕ) → Shortest R F p w i → length w ≤ 2079
  word_bound x p w i s = let r = clash_path l.rules x p w i s.clash in on r.0 r.1 r.2 r.3 (cases_lt (length r.1) 2080)
    where
      on : (q : ℕ) (v : List ℕ) → length v ≤ length w → Reaches R F q v i → (length v < 2080) ⊎ (2080 ≤ length v) → length w ≤ 2079
      on q v n r (inl h) = let a = s.least q v i (path_clash q v i r) in omega arith
      on q v n r (inr h) = let u = path_shorter q v i r h in let a = s.least q u.0 i (path_clash q u.0 i u.2) in let b = u.1 in omega arith

pub clashes_are_paths : ClashesArePaths
clashes_are_paths R F t l x = record {
  clash = path_clash;
  path = clash_path l.rules x;
  least = least_path l.rules x;
  none = no_path l.rules x;
  bound = word_bound l x;
}
