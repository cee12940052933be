-- One part in one class: its tables, that class steps miss nothing, and when a class is possible.
use Rattle.std.proofs.Common.{◌≡◌, ℕ, Bool, true, ◌&&◌, eqb, List, [], ◌∷◌, sym, refl, ◌∙◌, subst, arith}
use mathlib.Core.Logic.{∥∥₁_elim}
use mathlib.Core.HLevel.{⊥_prop}
use mathlib.Core.List.Memᴰ
use mathlib.Core.Option.{none, none-ne-some}
use Rattle.std.proofs.lemmas.Bool.{and_from, and_parts, eqb-true, eq-eqb}
use Rattle.terms.specs.Worlds.{◌∈◌, Rule, Obj, World, In, KeepsAll}
use Rattle.terms.specs.Steps.{Within, itself, chained, Leads, widened, AlwaysWithin, AlwaysLeads}
use Rattle.terms.specs.Facts.{Claim, in_class, value_at, one_object, NearlyKeeps}
use Rattle.terms.specs.Completed.{Known, told, same, turned, joined, class_shared, value_shared, one_value, class_up, class_along, class_back, keyed}
use Rattle.terms.specs.Verdicts.{Stands, Possible}
use Rattle.theory.specs.Tables.{Tables, Exact, Decided, member}
use Rattle.theory.specs.Paths.{Way, stay, go, Reaches}
use Rattle.theory.specs.Theorems.{StepsAreComplete, Undone, PossibleBySearch}
use Rattle.theory.proofs.Canon.{canonical, base_out, canon_nearly}
use Rattle.theory.proofs.Clashes.{no_path}
use Rattle.theory.proofs.Follow.{steps_way, canon_member, canon_wholly}
use Rattle.theory.proofs.Places.{at_mem}
use Rattle.theory.specs.Legal.{RulesLegal}
use Rattle.theory.proofs.Sound.{but_exclusions, within_sound, way_sound}

-- the claim that part n is in class A
abbrev pub lone : ℕ → ℕ → List Claim
lone n A = in_class n A ∷ []

-- what is known of one part in one class
abbrev pub Shape : List Rule → ℕ → ℕ → Claim → Type 0
Shape R n A (in_class p B) = (p ≡ n) × Within R A B
Shape R n A (value_at p f q) = ⊥
Shape R n A (one_object p q) = p ≡ q

told_shape : (R : List Rule) (n A : ℕ) (c : Claim) → c ∈ lone n A → Shape R n A c
told_shape R n A c (Memᴰ.head e) = subst (Shape R n A) (sym e) (refl, itself)
told_shape R n A c (Memᴰ.tail m) = elim m [ ]

-- the tables of one part in one class, from decided class steps
unfoldable pub alone : ℕ → ℕ → (ℕ → ℕ → Bool) → (ℕ → ℕ → ℕ → Bool) → Tables
alone n A within leads = record { has = λ p B. eqb p n && within A B; leader = λ p. p; value_of = λ p f. none; leads = leads }

module _ {R : List Rule} (n A : ℕ) where
  pub shape : {c : Claim} → Known R (lone n A) c → Shape R n A c
  shape (told {c = c} m) = told_shape R n A c m
  shape same = refl
  shape (turned e) = sym (shape e)
  shape (joined e e') = shape e ∙ shape e'
  shape (class_shared e h) = (sym (shape e) ∙ (shape h).0, (shape h).1)
  shape (value_shared e h) = absurd (shape h)
  shape (one_value g h) = absurd (shape g)
  shape (class_up h s) = ((shape h).0, chained (shape h).1 s)
  shape (class_along h d v) = absurd (shape v)
  shape (class_back v h m) = absurd (shape v)
  shape (keyed m g h a) = (shape g).0 ∙ sym (shape h).0

  pub alone_exact : (within : ℕ → ℕ → Bool) (leads : ℕ → ℕ → ℕ → Bool) → Decided R within leads → Exact R (lone n A) (alone n A within leads)
  unfolding alone
  alone_exact within leads d = record {
    has_is = λ p B. (
      λ h. let r = and_parts (eqb p n) (within A B) h in
          subst (λ p. Known R (lone n A) (in_class p B)) (sym (eqb-true p n r.0)) (class_up (told (Memᴰ.head refl)) ((d.within_is A B).0 r.1)),
      λ k. let r = shape k in and_from _ _ (eq-eqb p n r.0) ((d.within_is A B).1 r.1),
    );
    leader_is = λ p. same;
    leader_low = λ p q k. let e = shape k in omega arith;
    value_is = λ p f v. (λ e. absurd (none-ne-some v e), λ u. absurd (shape u.1));
    leads_is = d.leads_is;
  }

way_one : {R : List Rule} {C f B : ℕ} → Way R C (f ∷ []) B → Leads R C f B
way_one (go d stay) = d

module _ {R : List Rule} (l : RulesLegal R) (within : ℕ → ℕ → Bool) (leads : ℕ → ℕ → ℕ → Bool) (d : Decided R within leads) where
  -- the canonical world of part 0 in A
  lone_world : ℕ → World
  lone_world A = canonical (alone 0 A within leads)

  lone_keeps : (A : ℕ) → NearlyKeeps R (lone 0 A) (lone_world A)
  unfolding lone_world
  lone_keeps A = canon_nearly l (alone_exact 0 A within leads d)

  pub within_complete : (A B : ℕ) → AlwaysWithin R A B → Within R A B
  unfolding lone_world
  within_complete A B h =
      let k = lone_keeps A in
      let b = h (lone_world A) k.rules ((lone_world A).part 0) (k.facts _ (Memᴰ.head refl)) in
      (shape 0 A (base_out l (alone_exact 0 A within leads d) {q = (alone 0 A within leads).leader 0} b).1).1

  pub leads_complete : (A f B : ℕ) → AlwaysLeads R A f B → Leads R A f B
  unfolding lone_world alone
  leads_complete A f B h =
      let t = alone 0 A within leads in
      let x = alone_exact 0 A within leads d in
      let k = lone_keeps A in
      let b = h (lone_world A) k.rules ((lone_world A).part 0) (k.facts _ (Memᴰ.head refl)) in
      let m : member t 0 (f ∷ []) B ≡ true = sym (canon_member l x 0 (f ∷ []) B) ∙ b in
      let r = steps_way l x (t.has 0) (f ∷ []) B m in
      widened (shape 0 A ((x.has_is 0 r.0).0 r.1)).1 (way_one r.2) itself

  -- what is excluded along two ways from A cannot be
  pub undone_not : (A : ℕ) → Undone R A → (W : World) (x : Obj) → KeepsAll R W → In W A x → ⊥
  undone_not A u W x k h =
      let b = but_exclusions W k in
      k _ (at_mem R u.rule _ u.row) _
      (way_sound W b u.way_left x (within_sound W b u.in_first x h)) (way_sound W b u.way_right x (within_sound W b u.in_second x h))

  pub reaches_undone : (A p : ℕ) (w : List ℕ) (i : ℕ) → Reaches R (lone 0 A) p w i → Undone R A
  reaches_undone A p w i r = let q = r.path in
      record {
        first = q.from_a;
        second = q.from_b;
        left = r.left;
        right = r.right;
        word = w;
        rule = i;
        in_first = (shape 0 A q.in_a).1;
        in_second = (shape 0 A q.in_b).1;
        way_left = q.way_a;
        way_right = q.way_b;
        row = r.row;
      }

  pub possible_from : (A : ℕ) → ¬ Undone R A → Possible R A
  possible_from A n =
      let x = alone_exact 0 A within leads d in
      let s : Stands R (lone 0 A) = no_path l x (λ p w i r. n (reaches_undone A p w i r)) in
      let k = canon_wholly l x s in
      ∣ (canonical (alone 0 A within leads), (canonical (alone 0 A within leads)).part 0, k.rules, k.facts _ (Memᴰ.head refl)) ∣₁

pub steps_are_complete : StepsAreComplete
steps_are_complete R within leads l d = record { within = within_complete l.rules within leads d; leads = leads_complete l.rules within leads d }

pub possible_by_search : PossibleBySearch
possible_by_search R within leads l d A =
    (λ p u. ∥∥₁_elim p ⊥_prop (λ r. undone_not l.rules within leads d A u r.0 r.1 r.2 r.3), possible_from l.rules within leads d A)
