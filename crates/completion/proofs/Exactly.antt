-- Records to which no rule adds anything, each part having that of its leader, hold exactly the completed facts.
use Rattle.std.proofs.Common.{◌≡◌, ℕ, suc, ◌<◌, true, List, [], ◌∷◌, length, get_or, Some, None, Option, sym, ap, ◌∙◌, subst, inl, inr, arith}
use mathlib.Core.List.Memᴰ
use mathlib.Core.Option.{some, none-ne-some, some-injective}
use Rattle.std.proofs.lemmas.Bool.{cases_lt}
use Rattle.std.proofs.lemmas.Bool.Decides.{nat_tests}
use Rattle.terms.specs.declared.row.Row.{Row}
use Rattle.terms.specs.Rows.{lawful}
use Rattle.terms.specs.Worlds.{◌∈◌, key, rule_of}
use Rattle.terms.specs.Facts.{Claim, in_class, value_at, one_object}
use Rattle.terms.specs.Completed.{Known, same, turned, class_shared, value_shared}
use Rattle.theory.specs.Legal.{ClaimLegal, RulesLegal}
use Rattle.theory.specs.Tables.{Tables, Exact}
use Rattle.theory.proofs.Fixed as fixed
use Rattle.theory.proofs.Range.{within_range, leads_range}
use Rattle.book.specs.Books.{rows_of, steps_of}
use Rattle.book.proofs.Legal.{rules_legal, lawful_at}
use Rattle.completion.specs.declared.record.PartRecord.{PartRecord}
use Rattle.completion.specs.declared.rules.Rules.{Rules}
use Rattle.completion.specs.Records.{Has, Says, Right, RightOf, Shape, Led, key_features, leader_of, part_at, value_by}
use Rattle.completion.specs.Closed.{Meant, Settled, Visited, rules_in, row_at}
use Rattle.completion.specs.Whole.{tables_of, option}
use Rattle.completion.proofs.Limits.{has_from, has_to, leader_below, leader_past, value_below, value_from, values_same, value_past, leads_is}

option_some : (o : Option ℕ) (v : ℕ) → option o ≡ some v → o ≡ Some v
option_some None v e = absurd (none-ne-some v e)
option_some (Some u) v e = ap Some (some-injective u v e)

-- what stands in a list stands at a place of it
place_in : {X : Type 0} (xs : List X) (x d : X) → x ∈ xs → (k : ℕ) × (k < length xs) × (get_or xs k d ≡ x)
place_in [] x d m = absurd (Memᴰ.not-nil m)
place_in (y ∷ xs) x d m =
    elim (Memᴰ.cases_cons m) [
      | inl e ↦ (0, omega arith, sym e)
      | inr t ↦ let k = place_in xs x d t in (suc k.0, (let l = k.1 in omega arith), k.2)
    ]

abbrev none_row : Row
none_row = record { kind = 0; left = 0; right = 0; count = 0; features = [] }

-- a lawful row that says a key is of a key's kind, and has the key's classes and features
record SaysKey (row : Row) (A B : ℕ) (fs : List ℕ) : Type 0 where
  kind : row.kind ≡ 5
  left : row.left ≡ A
  right : row.right ≡ B
  features : key_features row ≡ fs

says_key : (row : Row) (A B : ℕ) (fs : List ℕ) → lawful row ≡ true → rule_of row ≡ key A B fs → SaysKey row A B fs
says_key row A B fs g e = grind (arith, nat_tests)

-- the tables of the records, with the class steps of the book
abbrev tables : Rules → List PartRecord → Tables
tables r ps = tables_of ps (steps_of r.book.now)

module _ (r : Rules) (F : List Claim) (ps qs : List PartRecord) (meant : Meant r) (legal : (c : Claim) → c ∈ F → ClaimLegal c) (shape : Shape ps)
    (settled : Settled r ps) (right : Right (rules_in r) F ps) (said : (c : Claim) → c ∈ F → Says ps c) (led : Led ps qs) where
  low : RulesLegal (rules_in r)
  low = rules_legal (rows_of r.book.now) r.book.now.lawful

  leader_low : (p : ℕ) → p < 256 → leader_of ps p < 256
  leader_low p l = let x = shape.low p l in omega arith

  visited : (p : ℕ) → p < 256 → Visited r ps (leader_of ps p)
  visited p l = settled.parts (leader_of ps p) (leader_low p l)

  leader_right : (p : ℕ) → p < 256 → RightOf (rules_in r) F (leader_of ps p) (part_at ps (leader_of ps p))
  leader_right p l = right (leader_of ps p) (leader_low p l)

  leader_is : (p : ℕ) → p < 256 → (tables r qs).leader p ≡ leader_of ps p
  leader_is p l = leader_below _ l ∙ ap (λ (s : PartRecord). s.leader) (led p l) ∙ shape.own p l

  -- what has a part's leader is a part
  one_of : (p q : ℕ) → p < 256 → (tables r qs).leader p ≡ (tables r qs).leader q → (q < 256) × (leader_of ps p ≡ leader_of ps q)
  one_of p q l e =
      elim (cases_lt q 256) [
        | inl k ↦ (k, sym (leader_is p l) ∙ e ∙ leader_is q k)
        | inr g ↦
            let a : leader_of ps p ≡ q = sym (leader_is p l) ∙ e ∙ leader_past _ g in
            let b = leader_low p l in
            absurd (omega arith)
      ]

  has_is : (p A : ℕ) → (tables r qs).has p A ≡ true → (p < 256) × (A < 64) × Has (part_at ps (leader_of ps p)) A
  has_is p A h = let x = has_from _ h in (x.0, x.1, subst (λ (s : PartRecord). Has s A) (led p x.0) x.2)

  is_has : (p A : ℕ) → p < 256 → A < 64 → Has (part_at ps (leader_of ps p)) A → (tables r qs).has p A ≡ true
  is_has p A l k h = has_to _ l k (subst (λ (s : PartRecord). Has s A) (sym (led p l)) h)

  value_is : (p f v : ℕ) → (tables r qs).value_of p f ≡ some v → (p < 256) × (f < 16) × (value_by (part_at ps (leader_of ps p)) f ≡ Some v)
  value_is p f v h = let x = value_from _ h in (x.0, x.1, ap (λ (s : PartRecord). value_by s f) (sym (led p x.0)) ∙ option_some _ v x.2)

  is_value : (p f v : ℕ) → p < 256 → f < 16 → value_by (part_at ps (leader_of ps p)) f ≡ Some v → (tables r qs).value_of p f ≡ some v
  is_value p f v l k h = value_below _ l k ∙ ap option (ap (λ (s : PartRecord). value_by s f) (led p l) ∙ h)

  -- a value that is the leader of q is that of a part
  value_leader : (p f q : ℕ) → (tables r qs).value_of p f ≡ some ((tables r qs).leader q) → (p < 256) × (f < 16) × (q < 256) × (value_by (part_at ps (leader_of ps p)) f ≡ Some (leader_of ps q))
  value_leader p f q h =
      let x = value_is p f _ h in
      let y = (shape.lead (leader_of ps p) f _ (leader_low p x.0) x.2).0 in
      elim (cases_lt q 256) [
        | inl k ↦ (x.0, x.1, k, x.2 ∙ ap Some (leader_is q k))
        | inr g ↦ let z : (tables r qs).leader q ≡ q = leader_past _ g in absurd (omega arith)
      ]

  claim_said : (c : Claim) → ClaimLegal c → Says ps c → fixed.Says (tables r qs) c
  claim_said (in_class p A) l s = is_has p A l.0 l.1 ((settled.parts p l.0).handed.classes A s)
  claim_said (value_at p f q) l s =
      is_value p f _ l.0 l.1 ((settled.parts p l.0).handed.values f _ l.1 s ∙ ap Some (sym (leader_is q l.2)))
  claim_said (one_object p q) l s = leader_is p l.0 ∙ s ∙ sym (leader_is q l.1)

  still : fixed.Still (rules_in r) F (tables r qs)
  still = record {
    facts_said = λ c m. claim_said c (legal c m) (said c m);
    classes_shared = λ p q A e h.
        let x = has_is p A h in
        let y = one_of p q x.0 e in
        is_has q A y.0 x.1 (subst (λ (v : ℕ). Has (part_at ps v) A) y.1 x.2);
    values_shared = λ p q f e.
        elim (cases_lt p 256) [
          | inl l ↦
              let y = one_of p q l e in
              let s = led p l ∙ ap (λ (v : ℕ). part_at ps v) y.1 ∙ sym (led q y.0) in
              values_same _ l y.0 (ap (λ (s : PartRecord). option (value_by s f)) s)
          | inr g ↦
              elim (cases_lt q 256) [
                | inl k ↦ let y = (one_of q p k (sym e)).0 in absurd (omega arith)
                | inr h ↦ value_past _ (inl g) ∙ sym (value_past _ (inl h))
              ]
        ];
    classes_up = λ p A B h w.
        let x = has_is p A h in
        let k : B < 64 = elim (within_range low w) [ inl e ↦ (let y = x.1 in omega arith) | inr y ↦ y.1 ] in
        is_has p B x.0 k ((visited p x.0).climbed A B x.2 ((meant.steps.within_is A B x.1).1 w));
    classes_along = λ p A f B q h d v.
        let x = has_is p A h in
        let y = value_leader p f q v in
        let k = (visited p x.0).followed f y.1 (leader_of ps q) y.3 in
        is_has q B y.2 (leads_range low d).2 (k.along A B x.2 ((meant.steps.leads_is A f B x.1 y.1).1 d));
    classes_back = λ p f q A B v h m.
        let x = has_is q A h in
        let y = value_leader p f q v in
        let k = (visited p y.0).followed f y.1 (leader_of ps q) y.3 in
        is_has p B y.0 (low _ m).2 (k.back A B x.2 (((meant.direct.by_is f y.1).behind_is A B x.1).1 m));
    keys_joined = λ A B fs p q m h i a.
        let rows = rows_of r.book.now in
        let t = Memᴰ.of_map rule_of rows m in
        let k = place_in rows t.0 none_row t.1 in
        let s = says_key (row_at r k.0) A B fs (lawful_at rows k.0 none_row r.book.now.lawful k.1) (ap rule_of k.2 ∙ t.2) in
        let x = has_is p A h in
        let y = has_is q B i in
        let e =
        settled.keys k.0 k.1 s.kind (leader_of ps p) (leader_of ps q) (leader_low p x.0) (leader_low q y.0) (shape.own p x.0) (shape.own q y.0)
        (subst (Has (part_at ps (leader_of ps p))) (sym s.left) x.2)
        (subst (Has (part_at ps (leader_of ps q))) (sym s.right) y.2)
        (λ f n. let v = a f (subst (λ (gs : List ℕ). f ∈ gs) s.features n) in (v.0, (value_is p f v.0 v.1).2, (value_is q f v.0 v.2).2)) in
        leader_is p x.0 ∙ sym (shape.own p x.0) ∙ e ∙ shape.own q y.0 ∙ sym (leader_is q y.0);
  }

  tables_right : fixed.Right (rules_in r) F (tables r qs)
  tables_right = record {
    has_known = λ p A h. let x = has_is p A h in class_shared (turned (right p x.0).leader) ((leader_right p x.0).classes A x.2);
    leader_known = λ p.
        elim (cases_lt p 256) [
          | inl l ↦ subst (λ (v : ℕ). Known (rules_in r) F (one_object p v)) (sym (leader_is p l)) (right p l).leader
          | inr g ↦ subst (λ (v : ℕ). Known (rules_in r) F (one_object p v)) (sym (leader_past _ g)) same
        ];
    leader_low = λ p.
        elim (cases_lt p 256) [
          | inl l ↦ let e = leader_is p l in let x = shape.low p l in omega arith
          | inr g ↦ let e : (tables r qs).leader p ≡ p = leader_past _ g in omega arith
        ];
    value_known = λ p f v h.
        let x = value_is p f v h in
        let y = (leader_right p x.0).values f v x.2 in
        let z = shape.lead (leader_of ps p) f v (leader_low p x.0) x.2 in
        (y.0, value_shared (turned (right p x.0).leader) y.1, fixed.said still y.2 ∙ leader_is v z.0 ∙ z.1);
  }

  pub exactly : Exact (rules_in r) F (tables r qs)
  exactly = fixed.still_exact tables_right still (leads_is _ low meant.steps.leads_is)
