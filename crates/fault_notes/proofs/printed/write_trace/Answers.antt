use Rattle.fault_notes.proofs.Items.{array_written}
use Rattle.fault_notes.proofs.printed.write_trace.Goals as goal

pub returns-clause-ok : goal.returns-clause-ok
returns-clause-ok c =
    array_written c.args.out.now.tokens c.begin_array.new.self.tokens
    c.write_strings.new.out.tokens c.end_array.new.self.tokens c.args.origins.now
    c.in_ok-begin_array.ensures.ok c.in_ok-write_strings.ensures.ok c.in_ok-end_array.ensures.ok
