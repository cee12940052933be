-- The facts that are judged claim what all records of the book claim.
use Rattle.std.proofs.Common.{◌≡◌, ℕ, Bool, true, false, cond, List, [], ◌∷◌, ◌++◌, refl, sym, subst, inl, inr, append_assoc, append-nil}
use mathlib.Core.List.Memᴰ
use Rattle.terms.specs.declared.fact.Fact.{Fact}
use Rattle.terms.specs.Worlds.{◌∈◌, Rule, World}
use Rattle.terms.specs.Facts.{Claim, claim_of, KeepsBook, NearlyKeeps, claims_of}
use Rattle.terms.specs.Verdicts.{Clash, Shortest}
use Rattle.stores.specs.Meaning.{listed}
use Rattle.stores.proofs.Listing.{listed_in}
use Rattle.records.specs.Books.{PartBook, told, facts_of}
use Rattle.audit.specs.Audits.{claims_in}

-- a fact is listed after the telling exactly when it was listed before or was told
told_only : (facts more : List Fact) (f : Fact) → f ∈ told facts more → f ∈ (facts ++ more)
told_only facts [] f m = subst (λ (z : List Fact). f ∈ z) (sym (append-nil facts)) m
told_only facts (g ∷ more) f m = by (listed facts g) (λ fs. told_only fs more f) m
  where
    by : (t : Bool) → ((fs : List Fact) → f ∈ told fs more → f ∈ (fs ++ more)) → f ∈ told (cond t facts (facts ++ g ∷ [])) more → f ∈ (facts ++ g ∷ more)
    by true on m = elim (Memᴰ.append_cases facts (on facts m)) [ inl l ↦ Memᴰ.append_left (g ∷ more) l | inr r ↦ Memᴰ.append_right facts (Memᴰ.tail r) ]
    by false on m = subst (λ (z : List Fact). f ∈ z) (append_assoc facts (g ∷ []) more) (on (facts ++ g ∷ []) m)

told_all : (facts more : List Fact) (f : Fact) → f ∈ (facts ++ more) → f ∈ told facts more
told_all facts [] f m = subst (λ (z : List Fact). f ∈ z) (append-nil facts) m
told_all facts (g ∷ more) f m = by (listed facts g) refl (λ fs. told_all fs more f)
  where
    by : (t : Bool) → listed facts g ≡ t → ((fs : List Fact) → f ∈ (fs ++ more) → f ∈ told fs more) → f ∈ told (cond t facts (facts ++ g ∷ [])) more
    by true here on =
        on facts (elim (Memᴰ.append_cases facts m) [
          | inl l ↦ Memᴰ.append_left more l
          | inr r ↦ elim r [
            | Memᴰ.head e ↦ Memᴰ.append_left more (subst (λ (z : Fact). z ∈ facts) (sym e) (listed_in facts g here))
            | Memᴰ.tail t ↦ Memᴰ.append_right facts t
          ]
        ])
    by false here on = on (facts ++ g ∷ []) (subst (λ (z : List Fact). f ∈ z) (sym (append_assoc facts (g ∷ []) more)) m)

-- the same claims, either way
module _ (b : PartBook) (c : Claim) where
  pub judged_claims : c ∈ claims_of (facts_of b) → c ∈ claims_in b
  judged_claims m =
      let x = Memᴰ.of_map claim_of (facts_of b) m in
      subst (λ (d : Claim). d ∈ claims_in b) x.2 (Memᴰ.map claim_of (told_only b.factory b.site x.0 x.1))

  pub all_claims : c ∈ claims_in b → c ∈ claims_of (facts_of b)
  all_claims m =
      let x = Memᴰ.of_map claim_of (b.factory ++ b.site) m in
      subst (λ (d : Claim). d ∈ claims_of (facts_of b)) x.2 (Memᴰ.map claim_of (told_all b.factory b.site x.0 x.1))

-- worlds and clashes ask only which claims there are
module _ (R : List Rule) (F G : List Claim) (into : (c : Claim) → c ∈ G → c ∈ F) where
  pub keeps_into : (W : World) → KeepsBook R F W → KeepsBook R G W
  keeps_into W k = record { rules = k.rules; facts = λ c m. k.facts c (into c m) }

  nearly_into : (W : World) → NearlyKeeps R F W → NearlyKeeps R G W
  nearly_into W k = record { rules = k.rules; facts = λ c m. k.facts c (into c m) }

  clash_from : (p : ℕ) (w : List ℕ) (i : ℕ) → Clash R G p w i → Clash R F p w i
  clash_from p w i k = record { left = k.left; right = k.right; row = k.row; both = λ W n. k.both W (nearly_into W n) }

pub shortest_same : (R : List Rule) (F G : List Claim) → ((c : Claim) → c ∈ G → c ∈ F) → ((c : Claim) → c ∈ F → c ∈ G)
    → (p : ℕ) (w : List ℕ) (i : ℕ) → Shortest R F p w i → Shortest R G p w i
shortest_same R F G into from p w i s = record { clash = clash_from R G F from p w i s.clash; least = λ q v j k. s.least q v j (clash_from R F G into q v j k) }
