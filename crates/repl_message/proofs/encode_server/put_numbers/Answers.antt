-- The numbers of a column are those of its source, its type and its form.
use Rattle.repl_message.proofs.Extending.{added_three}
use Rattle.repl_message.proofs.encode_server.put_numbers.Goals as goal

pub returns-clause-put : goal.returns-clause-put
returns-clause-put c = record {
  ok = added_three _ _ _ _ _ _ _ c.in_ok-put_source.ensures.put.ok c.in_ok-put_type.ensures.put.ok c.in_ok-put_form.ensures.put.ok;
  err = tt;
}
