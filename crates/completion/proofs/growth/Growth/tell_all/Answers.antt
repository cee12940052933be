use Rattle.std.proofs.Common.{◌≡◌, ℕ, List, Some, sym, ◌∙◌, subst, below_more, arith}
use mathlib.Core.List.Memᴰ
use Rattle.std.specs.List.{slice_get}
use Rattle.terms.specs.declared.fact.Fact.{Fact}
use Rattle.terms.specs.Worlds.{◌∈◌}
use Rattle.terms.specs.Facts.{Claim, claim_of, claims_of}
use Rattle.theory.specs.Legal.{ClaimLegal}
use Rattle.stores.proofs.Listing.{in_nth, nth_in, nth_below}
use Rattle.completion.specs.Records.{Says}
use Rattle.completion.proofs.Going.{went_then}
use Rattle.completion.proofs.growth.Growth.tell_all.Goals as goal
use Rattle.completion.proofs.growth.Growth.tell_all.Goals.{in-Some, in_default}

-- what holds of the claims of the facts at all places holds of all claims
each_claim : (facts : List Fact) (P : Claim → Type 0) → ((k : ℕ) (f : Fact) → slice_get facts k ≡ Some f → P (claim_of f)) → (c : Claim) → c ∈ claims_of facts → P c
each_claim facts P h c m =
    let f = Memᴰ.of_map claim_of facts m in
    let k = in_nth facts f.0 f.1 in
    subst P f.2 (h k.0 f.0 k.1)

pub tell-requires : goal.tell-requires
tell-requires g c =
    (g.S.Store.means c.args.store.now c.requires).lawful c.in-Some.fact (nth_in _ c.loop-place.place _ (sym c.at.ensures ∙ c.in-Some.is))

pub loop-place-preserved : goal.loop-place-preserved
loop-place-preserved g c =
    let i = c.loop-place.invariant in
    elim c.match-at.branch [
      | in-Some w ↦
          let t = w.tell.ensures in
          let here = sym c.at.ensures ∙ w.in-Some.is in
          record {
            went = rw w.self-is (went_then i.went t.went);
            told = rw w.self-is (below_more _ _
                (λ k l f e. let a = i.told k l f e in (a.0, t.went.kept _ a.0 a.1))
                (λ f e. let same : w.in-Some.fact ≡ f = cc in subst (λ (h : Fact). ClaimLegal (claim_of h) × Says w.tell.new.self.parts (claim_of h)) same (t.legal, t.given)));
            right = rw w.self-is (λ R F h r. t.right R F (h _ (Memᴰ.map claim_of (nth_in _ c.loop-place.place _ here))) (i.right R F h r));
          }
      | in_default w ↦ record {
        went = rw w.self-is i.went;
        told = rw w.self-is (below_more _ _ i.told (λ f e. absurd (w.in_default.not-Some f (c.at.ensures ∙ e))));
        right = rw w.self-is i.right;
      }
    ]

pub returns-clause-legal : goal.returns-clause-legal
returns-clause-legal g c = each_claim _ ClaimLegal (λ k f e. let l = nth_below _ k f e in (c.loop-place.invariant.told k (omega arith) f e).0)

pub returns-clause-given : goal.returns-clause-given
returns-clause-given g c = each_claim _ (Says c.loop-place.self.parts) (λ k f e. let l = nth_below _ k f e in (c.loop-place.invariant.told k (omega arith) f e).1)
