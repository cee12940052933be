use Rattle.std.proofs.Common.{rules, map}
use Rattle.script.proofs.Lines.{line_read_if_ok}
use Rattle.script.proofs.reading.read.Goals as goal

pub returns-in-Some-2 : goal.returns-in-Some-2
returns-in-Some-2 c = line_read_if_ok c.args.line.now c.in-Some.name.now.now (map (λ w. w.now) c.in-Some.rest.now) c.in-Some-2.numbers.items c.asked.result (search rules) (search rules) (search rules) (search rules)
