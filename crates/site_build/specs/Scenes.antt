-- What the devices and the runner tell before and after a call.
use Rattle.std.specs.Prelude.{◌≡◌, ℕ, List, Option}
use Rattle.engine_session.specs.Standing.{Counts, counts}
use Rattle.outside.specs.Cells.{Cell}
use Rattle.outside.specs.declared.lines.Lines as lines
use Rattle.outside.specs.declared.shelf.Change.{Change}
use Rattle.outside.specs.declared.shelf.Shelf as shelf
use Rattle.outside.specs.declared.sink.Sink as sink
use Rattle.outside.specs.declared.source.MemFile.{MemFile}
use Rattle.outside.specs.declared.source.Source as source
use Rattle.runner.specs.declared.runner.Runner as runner
use Rattle.site_build.specs.declared.handed.Devices.{Devices}

-- what the devices tell, and the runs and steps that were made
pub record Scene : Type 0 where
  pub coming : Option (List (List MemFile))
  pub source_opened : Option (List ℕ)
  pub source_count : ℕ
  pub cell : List ℕ → Cell
  pub changes : Option (List Change)
  pub shelf_opened : Option (List ℕ)
  pub shelf_count : ℕ
  pub lines : Option (List (List ℕ))
  pub lines_count : ℕ
  pub held : Option (List ℕ)
  pub out_count : ℕ
  pub spent : Counts

-- .. beside these runs and steps
abbrev pub seen : {S H N O : Type 0} → source.Ghosts S → shelf.Ghosts H → lines.Ghosts N
    → sink.Ghosts O → Devices S H N O → Counts → Scene
seen S H N O devices spent = record {
  coming = S.coming devices.source;
  source_opened = S.opened devices.source;
  source_count = S.fault_count devices.source;
  cell = H.cell devices.shelf;
  changes = H.changes devices.shelf;
  shelf_opened = H.opened devices.shelf;
  shelf_count = H.fault_count devices.shelf;
  lines = N.left devices.lines;
  lines_count = N.fault_count devices.lines;
  held = O.held devices.out;
  out_count = O.fault_count devices.out;
  spent = spent;
}

abbrev pub scene : {R S H N O T : Type 0} → runner.Ghosts R T → source.Ghosts S → shelf.Ghosts H
    → lines.Ghosts N → sink.Ghosts O → R → Devices S H N O → ℕ → Scene
scene M S H N O runner devices steps =
    seen S H N O devices (counts (M.runs_of runner) steps)

-- no device was called but the sink
abbrev pub OnlyWrites : Scene → Scene → Type 0
OnlyWrites before after = after
    ≡ record before { held = after.held; out_count = after.out_count; spent = after.spent }

-- of these what the shelf holds and what was done to it, and what the sink holds
pub record Outs : Type 0 where
  pub cell : List ℕ → Cell
  pub changes : Option (List Change)
  pub held : Option (List ℕ)

abbrev pub outs : {H O : Type 0} → shelf.Ghosts H → sink.Ghosts O → H → O → Outs
outs H O h o = record { cell = H.cell h; changes = H.changes h; held = O.held o }
