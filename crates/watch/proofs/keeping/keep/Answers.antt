use Rattle.watch.proofs.keeping.keep.Goals as goal

pub returns-in-Some-clause-saved : goal.returns-in-Some-clause-saved
returns-in-Some-clause-saved g c = λ dirs limits e is. rw (c.in-Some.is)
    (c.save_rows.ensures.saved dirs limits e is)
