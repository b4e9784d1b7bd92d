use Rattle.std.proofs.Common.{arith}
use Rattle.dml_world.proofs.Looking.{texts_pushed, texts_end}
use Rattle.dml_world.proofs.files.texts_in.Goals as goal

pub items-preserved : goal.items-preserved
items-preserved c = record {
  made = texts_pushed c.args.list.now c.items.i _ c.items.texts.items c.push_text.new.texts.items _
      c.items.invariant.listed c.text_at.ensures c.in_ok-push_text.ensures c.items.invariant.made;
  listed = c.items.invariant.listed;
}

pub returns : goal.returns
returns c = texts_end c.args.list.now c.items.i _ _ (omega arith) c.items.invariant.made
