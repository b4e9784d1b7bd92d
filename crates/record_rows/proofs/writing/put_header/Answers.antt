use Rattle.std.proofs.Common.{ap, ◌∙◌, ◌++◌, [], ◌∷◌}
use Rattle.kept_state.specs.Stored.{stored}
use Rattle.record_rows.proofs.Written.{on_ok, header_written}
use Rattle.record_rows.proofs.writing.put_header.Goals as goal

pub returns-clause-bytes : goal.returns-clause-bytes
returns-clause-bytes c =
    on_ok c.put_dirs.result (λ e. header_written (stored c.args.kept.now) c.deref.result.now
    c.args.out.now.items c.push.new.self.items c.put_u64.new.out.items c.put_u64-2.new.out.items
    c.put_u64-3.new.out.items c.put_dirs.new.out.items
    (c.in_ok-push.ensures.items ∙ ap (λ n. c.args.out.now.items ++ n ∷ []) c.number.ensures)
    c.in_ok-put_u64.ensures.bytes c.in_ok-put_u64-2.ensures.bytes
    c.in_ok-put_u64-3.ensures.bytes c.deref.ensures.value e) c.put_dirs.ensures.bytes
