use Rattle.std.proofs.Common.{rules, arith}
use Rattle.std.proofs.lemmas.Fmt.{parse-decimal}
use Rattle.script.proofs.reading.number.Goals as goal

pub returns-in_default : goal.returns-in_default
returns-in_default c = λ n small e. let parsed = parse-decimal 8 n c.args.word.now c.parse.result small (omega arith) e c.parse.ensures.value.0 in search (rules, parsed, c.in_default.not-Ok)

pub returns-else-eq : goal.returns-else-eq
returns-else-eq c = λ n small e. let parsed = parse-decimal 8 n c.args.word.now c.parse.result small (omega arith) e c.parse.ensures.value.0 in search (rules, parsed, e)
