use Rattle.runner.specs.Words.{words}
use Rattle.object_run.proofs.library.LibraryRunner.run_check.Given as goal

-- the words of the picture and of what is known, a count of steps of its own, and what is checked

abbrev pub ghosts-check_in-T-Words : goal.ghosts-check_in-T-Words
ghosts-check_in-T-Words g a =
    record {
      tells = words a.picture.now (g.K.Known.numbers a.known.now)
          (g.K.Known.objects a.known.now);
    }

abbrev pub ghosts-check_in-N-Ledger : goal.ghosts-check_in-N-Ledger
ghosts-check_in-N-Ledger g a = record { name = a.blank.name; parts = a.blank.parts }

abbrev pub ghosts-check_in-C-Tested : goal.ghosts-check_in-C-Tested
ghosts-check_in-C-Tested g a = record {
  case = record {
    object = a.built.now.object;
    dirs = a.dirs.now;
    limits = a.limits.now;
    built =
        a.built.now;
  };
}
