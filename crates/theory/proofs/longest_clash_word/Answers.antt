-- The theorems, each by its proof.
use Rattle.std.proofs.Common.{refl}
use Rattle.theory.proofs.longest_clash_word.Goals as goal
use Rattle.theory.proofs.Sound.{completed_is_true}
use Rattle.theory.proofs.Follow.{canonical_world}
use Rattle.theory.proofs.Merely.{merely_answer}
use Rattle.theory.proofs.Bound.{clashes_are_paths}
use Rattle.theory.proofs.Alone.{steps_are_complete, possible_by_search}
use Rattle.theory.proofs.One.{exact_is_one}
use Rattle.theory.proofs.Extended.{below_is_enough}
use Rattle.theory.proofs.Worked.{worked_cases}
use Rattle.theory.proofs.CaseTables.{cases_have_tables}

pub returns : goal.returns
returns c = record {
  number = refl;
  bound = λ R F t l x. (clashes_are_paths R F t l x).bound;
  completed_is_true = completed_is_true;
  canonical_world = canonical_world;
  tables_answer = merely_answer;
  clashes_are_paths = clashes_are_paths;
  steps_are_complete = steps_are_complete;
  possible_by_search = possible_by_search;
  exact_is_one = exact_is_one;
  below_is_enough = below_is_enough;
  worked_cases = worked_cases;
  cases_have_tables = cases_have_tables;
}
