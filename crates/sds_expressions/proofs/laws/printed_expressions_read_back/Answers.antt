use Rattle.std.proofs.Common.{◌∷◌}
use Rattle.sds_expressions.specs.Printed.{text_of_tests, text_of_lookup, text_of_choice}
use Rattle.sds_expressions.proofs.Printing.{column_written, lookup_written, choice_written}
use Rattle.sds_expressions.proofs.Saying.{column_says, lookup_says, choice_says}
use Rattle.sds_expressions.proofs.laws.printed_expressions_read_back.Goals as goal

pub returns : goal.returns
returns c = record {
  column = λ test tests all. (column_says (text_of_tests (test ∷ tests)) (test ∷ tests)).1 (column_written test tests all);
  lookup = λ lookup names. (lookup_says (text_of_lookup lookup) lookup).1 (lookup_written lookup names);
  subselect = λ choice condition conditions e is. (choice_says (text_of_choice choice) choice).1 (choice_written choice condition conditions e is);
}
