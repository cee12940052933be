use Rattle.std.proofs.Common.{rules, length, ap, arith, refl}
use Rattle.terms.specs.Facts.{claims_of}
use Rattle.judge.proofs.Searching.{answered}
use Rattle.judge.proofs.Worlds.{verdict_right}
use Rattle.judge.proofs.judging.judge.Goals.{in-None, in-Some}
use Rattle.judge.proofs.judging.judge.Goals as goal

pub invariant_of-sheet : goal.invariant_of-sheet
invariant_of-sheet g c =
    let a =
    answered c.args.book.now (claims_of (g.S.Store.facts c.args.store.now)) c.in_ok-records.records c.classes_of.result c.classes_of.ensures (omega arith)
    c.in_ok-records.ensures.whole c.search.new.letters (omega arith) c.match-found.verdict c.in_ok-found.found c.in_ok-found.ensures.searched.1
    (λ e. elim c.match-found.branch [ in-None w ↦ w.verdict-is | in-Some w ↦ cc ])
    (λ k e. elim c.match-found.branch [ in-None w ↦ cc | in-Some w ↦ cc ]) in
    let rows = c.args.book.now.room in
    let facts = (g.S.Store.means c.args.store.now c.requires).short in
    record {
      few_rows = (let e = ap length c.rows.ensures in omega arith);
      few_facts = (let e = c.count.ensures in omega arith);
      short = a.short;
      low = a.low;
    }

pub returns-clause-judges : goal.returns-clause-judges
returns-clause-judges g c =
    let a =
    answered c.args.book.now (claims_of (g.S.Store.facts c.args.store.now)) c.in_ok-records.records c.classes_of.result c.classes_of.ensures (omega arith)
    c.in_ok-records.ensures.whole c.search.new.letters (omega arith) c.match-found.verdict c.in_ok-found.found c.in_ok-found.ensures.searched.1
    (λ e. elim c.match-found.branch [ in-None w ↦ w.verdict-is | in-Some w ↦ cc ])
    (λ k e. elim c.match-found.branch [ in-None w ↦ cc | in-Some w ↦ cc ]) in
    record {
      answer = search rules;
      judged = (
        _,
        refl,
        record {
          steps = c.steps.ensures.value;
          rows = ap length c.rows.ensures;
          read = c.count.ensures;
          exact = c.in_ok-records.ensures.whole;
          verdict = refl;
          word = a.size;
          says = a.says;
        },
      );
      unchanged = tt;
    }

pub returns-clause-worlds : goal.returns-clause-worlds
returns-clause-worlds g c =
    let j = (returns-clause-judges g c).judged in
    verdict_right c.args.book.now (g.S.Store.facts c.args.store.now) c.match-found.verdict j.0 j.2
