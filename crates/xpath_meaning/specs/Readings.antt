-- What is read of the steps that were seen, under strip rules, key declarations, and the name of ID attributes or none.
use Rattle.std.specs.Prelude.{ℕ, List, [], nat_lt, if◌then◌else◌, length, Option, Some, ◌++◌}
use Rattle.doc_model.specs.declared.node_test.Test.{Test}
use Rattle.doc_model.specs.declared.row.Axis.TheVariants as axis
use Rattle.doc_model.specs.declared.row.Row.{Row}
use Rattle.doc_model.specs.declared.step.Step.{Step}
use Rattle.doc_model.specs.declared.strip_rule.StripRule.{StripRule}
use Rattle.doc_model.specs.Answers.{Known, with_faults, once_shut, once_joined}
use Rattle.doc_model.specs.Axes.{axis_rows, axis_of}
use Rattle.doc_model.specs.Document.{is_open}
use Rattle.doc_model.specs.Rows.{rows_of, row_at}
use Rattle.doc_model.specs.Values.{string_value_of}
use Rattle.sheet_ast.specs.declared.sheet.KeyDecl.{KeyDecl}
use Rattle.xpath_values.specs.declared.value.Value.{Value}
use Rattle.xpath_meaning.specs.declared.context.Env.{Env}
use Rattle.xpath_meaning.specs.Keys.{id_nodes_of, key_nodes_of}
use Rattle.xpath_meaning.specs.Outcome.{Outcome}
use Rattle.xpath_meaning.specs.Reading.{Reading}
use Rattle.xpath_meaning.specs.Streams.{Stream, Whole, Cut, ends}

-- the visible children of a row that meet a test, so far: there will be no more once the row is shut
abbrev pub children_so_far : List StripRule → List Step → Test → ℕ → Stream
children_so_far rules steps test n =
    if nat_lt n (length (rows_of steps))
    then record { items = axis_rows rules (rows_of steps) n axis.Child test; ending = if is_open steps n then Cut n else Whole }
    else ends (Cut n)

abbrev pub row_so_far : List Step → ℕ → Outcome Row
row_so_far steps n = once_joined steps n (Known (row_at (rows_of steps) n))

-- for the declarations of keys themselves, in which no key is looked up
unfoldable pub reading_without_keys : List StripRule → Option (List ℕ) → List Step → Reading
reading_without_keys rules id steps = record {
  axis = λ axis test n. with_faults (axis_of rules steps n axis test);
  children = children_so_far rules steps;
  row = row_so_far steps;
  value = λ n. with_faults (string_value_of rules steps n);
  whole = with_faults (once_shut steps (Some 0) tt);
  by_key = λ key value. Known [];
  by_id = id_nodes_of id steps;
}

unfoldable pub reading_of : List StripRule → List KeyDecl → Option (List ℕ) → List Step → Reading
reading_of rules keys id steps = record {
  axis = λ axis test n. with_faults (axis_of rules steps n axis test);
  children = children_so_far rules steps;
  row = row_so_far steps;
  value = λ n. with_faults (string_value_of rules steps n);
  whole = with_faults (once_shut steps (Some 0) tt);
  by_key = key_nodes_of (reading_without_keys rules id steps) rules keys steps;
  by_id = id_nodes_of id steps;
}

-- the values of variables by their slots: globals first
abbrev pub values_of : Env → List Value
values_of env = env.globals.now ++ env.locals.now
