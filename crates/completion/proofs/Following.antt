-- What one part takes over: from the part that is its leader, from what its classes lie within, and along a feature.
use Rattle.std.proofs.Common.{◌≡◌, ℕ, ◌+◌, ◌<◌, true, false, List, Some, None, sym, ap, ◌∙◌, subst, below_more, arith}
use Rattle.classes.specs.declared.ClassSet.{ClassSet}
use Rattle.classes.specs.Sets.{has}
use Rattle.terms.specs.Worlds.{Rule}
use Rattle.terms.specs.Facts.{Claim, in_class, value_at, one_object}
use Rattle.terms.specs.Completed.{Known, turned, class_shared, value_shared, class_up, class_along, class_back}
use Rattle.book.specs.Tables.{table_at}
use Rattle.book.specs.Books.{steps_of}
use Rattle.book.specs.Sealing.{Gathered, links_by}
use Rattle.completion.specs.declared.record.PartRecord.{PartRecord}
use Rattle.completion.specs.declared.growth.Growth.{Growth}
use Rattle.completion.specs.declared.rules.Rules.{Rules}
use Rattle.completion.specs.Records.{Has, Right, RightOf, leader_of, part_at, value_by}
use Rattle.completion.specs.Growths.{Went}
use Rattle.completion.specs.Closed.{Meant, rules_in}
use Rattle.completion.proofs.Going.{went_none, went_then, still}

-- the leader has what is known of the part
pub leader_in : {R : List Rule} {F : List Claim} {p : ℕ} {r : PartRecord} → RightOf R F p r → (A : ℕ) → Has r A → Known R F (in_class r.leader A)
leader_in right A h = class_shared right.leader (right.classes A h)

pub leader_value : {R : List Rule} {F : List Claim} {p : ℕ} {r s : PartRecord} (f v : ℕ) → RightOf R F p r → RightOf R F p s → value_by r f ≡ Some v
    → (u : ℕ) × Known R F (value_at s.leader f u) × Known R F (one_object u v)
leader_value f v right now e = let u = right.values f v e in (u.0, value_shared now.leader u.1, u.2)

-- the classes that are gathered by the tables are known: those that the part's lie within, lead to, and are pulled back to
pub climbed_known : {r : Rules} {F : List Claim} {p : ℕ} {s : PartRecord} {more : ClassSet} → Meant r → RightOf (rules_in r) F p s → Gathered (steps_of r.book.now).within s.classes more
    → (B : ℕ) → has more B ≡ true → Known (rules_in r) F (in_class p B)
climbed_known meant right gathered B h =
    let k = gathered.from B h in
    class_up (right.classes k.0 k.2) ((meant.steps.within_is k.0 B k.1).0 k.3)

pub led_known : {r : Rules} {F : List Claim} {p : ℕ} {s : PartRecord} {more : ClassSet} (f v : ℕ) → f < 16 → Meant r → RightOf (rules_in r) F p s → value_by s f ≡ Some v
    → Gathered (table_at (steps_of r.book.now).leads f) s.classes more → (B : ℕ) → has more B ≡ true → Known (rules_in r) F (in_class v B)
led_known f v low meant right e gathered B h =
    let u = right.values f v e in
    let k = gathered.from B h in
    class_shared u.2 (class_along (right.classes k.0 k.2) ((meant.steps.leads_is k.0 f B k.1 low).0 k.3) u.1)

pub pulled_known : {r : Rules} {F : List Claim} {p : ℕ} {s t : PartRecord} {more : ClassSet} (f v : ℕ) → f < 16 → Meant r → RightOf (rules_in r) F p s → value_by s f ≡ Some v → RightOf (rules_in r) F v t
    → Gathered (links_by r.links f).behind t.classes more → (B : ℕ) → has more B ≡ true → Known (rules_in r) F (in_class p B)
pulled_known f v low meant right e there gathered B h =
    let u = right.values f v e in
    let k = gathered.from B h in
    class_back u.1 (class_shared (turned u.2) (there.classes k.0 k.2)) (((meant.direct.by_is f low).behind_is k.0 B k.1).0 k.3)

-- the leader of p has the classes of p
abbrev pub LeaderHas : List PartRecord → ℕ → Type 0
LeaderHas ps p = (A : ℕ) → Has (part_at ps p) A → Has (part_at ps (leader_of ps p)) A

-- its value by f, and its values by the features below n
abbrev pub LeaderValue : List PartRecord → ℕ → ℕ → Type 0
LeaderValue ps p f = (v : ℕ) → value_by (part_at ps p) f ≡ Some v → value_by (part_at ps (leader_of ps p)) f ≡ Some v

abbrev pub LeaderValues : List PartRecord → ℕ → ℕ → Type 0
LeaderValues ps p n = (f : ℕ) → f < n → LeaderValue ps p f

-- from g to h the classes of p and its values by the features below n were handed over
pub record Handing (g : Growth) (p n : ℕ) (h : Growth) : Type 0 where
  pub went : Went g h
  pub classes : h.waiting.grown ≡ false → LeaderHas h.parts p
  pub values : h.waiting.grown ≡ false → LeaderValues h.parts p n
  pub right : (R : List Rule) (F : List Claim) → Right R F g.parts → Right R F h.parts

pub handed_first : {g h : Growth} (p : ℕ) → p < 256 → Went g h → ((A : ℕ) → Has (part_at g.parts p) A → Has (part_at h.parts (leader_of g.parts p)) A)
    → ((R : List Rule) (F : List Claim) → ((A : ℕ) → Has (part_at g.parts p) A → Known R F (in_class (leader_of g.parts p) A)) → Right R F g.parts → Right R F h.parts)
    → Handing g p 0 h
handed_first {g} {h} p low w given right = record {
  went = w;
  classes = λ e. subst (λ (ps : List PartRecord). (A : ℕ) → Has (part_at ps p) A → Has (part_at h.parts (leader_of ps p)) A) (sym (w.moved.same e).1) given;
  values = λ e f h. absurd (omega arith);
  right = λ R F known. right R F (leader_in (known p low)) known;
}

handed_more : {g h k : Growth} {p n : ℕ} → Handing g p n h → Went h k
    → (k.waiting.grown ≡ false → LeaderValue k.parts p n)
    → ((R : List Rule) (F : List Claim) → Right R F g.parts → Right R F h.parts → Right R F k.parts)
    → Handing g p (n + 1) k
handed_more {g} {h} {k} {p} {n} i w there right = record {
  went = went_then i.went w;
  classes = still (λ ps. LeaderHas ps p) w i.classes;
  values = λ e. below_more (LeaderValue k.parts p) n (still (λ ps. LeaderValues ps p n) w i.values e) (there e);
  right = λ R F known. right R F known (i.right R F known);
}

-- the value of p by n, or none, is handed over next
pub handed_value : {g h k : Growth} {p n : ℕ} (v : ℕ) → p < 256 → value_by (part_at g.parts p) n ≡ Some v → Handing g p n h → Went h k
    → value_by (part_at k.parts (leader_of h.parts p)) n ≡ Some (leader_of k.parts v)
    → ((R : List Rule) (F : List Claim) → ((u : ℕ) × Known R F (value_at (leader_of h.parts p) n u) × Known R F (one_object u v)) → Right R F h.parts → Right R F k.parts)
    → Handing g p (n + 1) k
handed_value {g} {h} {k} {p} {n} v low told i w given right =
    handed_more i w (λ e. value_there (w.moved.same e).1 ((went_then i.went w).moved.same e).1) (λ R F known now. right R F (leader_value n v (known p low) (now p low) told) now)
  where
    value_there : k.parts ≡ h.parts → k.parts ≡ g.parts → LeaderValue k.parts p n
    value_there same all u is =
        let leader : leader_of k.parts p ≡ leader_of h.parts p = ap (λ (ps : List PartRecord). leader_of ps p) same in
        let still_told : value_by (part_at k.parts p) n ≡ Some v = ap (λ (ps : List PartRecord). value_by (part_at ps p) n) all ∙ told in
        rw leader (given ∙ ap Some (k.shape.lead p n v low still_told).1 ∙ sym still_told ∙ is)

pub handed_none : {g h : Growth} {p n : ℕ} → value_by (part_at g.parts p) n ≡ None → Handing g p n h → Handing g p (n + 1) h
handed_none {g} {h} {p} {n} none i = handed_more i (went_none h) (λ e. no_value (i.went.moved.same e).1) (λ R F known now. now)
  where
    no_value : h.parts ≡ g.parts → LeaderValue h.parts p n
    no_value same v is = let untold = ap (λ (ps : List PartRecord). value_by (part_at ps p) n) same ∙ none in cc
