use Rattle.engine_session.proofs.Lists.{are_objects, only_objects}
use Rattle.engine_session.proofs.laws.object_lists.Goals as goal

pub returns-clause-objects : goal.returns-clause-objects
returns-clause-objects c = are_objects

pub returns-clause-only : goal.returns-clause-only
returns-clause-only c = only_objects
