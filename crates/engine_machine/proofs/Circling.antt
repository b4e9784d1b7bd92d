-- A lawful runner's builds end as circular only where they have read a circular object.
use Rattle.std.proofs.Common.{◌≡◌, ◌⊎◌, ℕ, List, [], ◌∷◌, Bool, true, false, cond, Option, Some, None, Ok, Err, refl, sym, ap, ◌∙◌, subst, inl, inr, ⊎_elim}
use Rattle.load_path.specs.declared.picture.PictureFile.{PictureFile}
use Rattle.path_tree.specs.Find.{get}
use Rattle.path_tree.specs.declared.path.Term.{Term}
use Rattle.path_tree.specs.Plain.{Plain}
use Rattle.asking.specs.Asked.{Ends}
use Rattle.questions.specs.declared.key.Key.{Key}
use Rattle.questions.specs.declared.key.Key.TheVariants.{File, Under}
use Rattle.questions.specs.Contents.{Content, Failed, is_circular_answer}
use Rattle.questions.specs.Told.{IsPlainList}
use Rattle.runner.specs.Ends.{End, is_circular_end}
use Rattle.runner.specs.Meaning.{Meaning, IsLawful}
use Rattle.runner.specs.Words.{value_content}
use Rattle.engine_laws.specs.Names.{Name}
use Rattle.engine_laws.specs.Runner.{IsTrail}
use Rattle.engine_laws.specs.Bounded.{built, content, content_at}
use Rattle.engine_laws.specs.Circles.{IsCircular, AsksCircle, CircleLaws}
use Rattle.engine_laws.specs.Engine.{is_among}
use Rattle.engine_machine.specs.Machine.{keep, grade, is_circle, fault_grade, failed_content, seen, runner_of}
use Rattle.engine_machine.specs.Pictures.{target_in, picture_in}
use Rattle.engine_machine.proofs.Costs.{build_soon}

no_value : (p : Name) (terms : List Term) (v : Option Plain)
    → is_circular_answer (Under p terms) (value_content v) ≡ false
no_value p terms None = refl
no_value p terms (Some t) = refl

no_fault : (p : Name) (terms : List Term) (b : Bool) → is_circle (fault_grade b) ≡ false
    → is_circular_answer (Under p terms) (failed_content (fault_grade b)) ≡ false
no_fault p terms true e = absurd (let clash : true ≡ false = e in cc)
no_fault p terms false e = refl

-- what is seen of an object that is not circular
plain_seen : {T : Type 0} → (p : Name) (terms : List Term) (r : End T) → is_circle (grade (keep r))
    ≡ false → is_circular_answer (Under p terms) (seen (Under p terms) (keep r)) ≡ false
plain_seen p terms (Ok b) e = no_value p terms (get terms b.tree)
plain_seen p terms (Err f) e = no_fault p terms _ e

-- an end as circular
end_circle : {T : Type 0} → (r : End T) → is_circle (grade (keep r)) ≡ true → is_circular_end r
    ≡ true
end_circle (Ok b) e = e
end_circle (Err f) e = at _ e
  where
    at : (b : Bool) → is_circle (fault_grade b) ≡ true → b ≡ true
    at true h = refl
    at false h = h

true_or_not : (b : Bool) → (b ≡ true) ⊎ (b ≡ false)
true_or_not true = inl refl
true_or_not false = inr refl

module _ {T : Type 0} (m : Meaning T) (laws : IsLawful m) (files : List PictureFile)
    (objects : List Name) where
  abbrev tell : Key → Content
  tell = content (runner_of m.build) (picture_in files objects)

  abbrev end_of : Name → End T
  end_of = built (runner_of m.build) (picture_in files objects)

  -- a key asks for a circular object, or what it is told is of none
  key_told : (k : Key) → ((p : Name) × (target_in objects k ≡ Some p)
      × IsCircular (runner_of m.build) (picture_in files objects) p)
      ⊎ (is_circular_answer k (tell k) ≡ false)
  key_told (File f) = inr refl
  key_told (Under p terms) = at (is_among p objects) refl
    where
      at : (b : Bool) → is_among p objects ≡ b → ((q : Name)
          × (cond (is_among p objects) (Some p) None ≡ Some q)
          × IsCircular (runner_of m.build) (picture_in files objects) q)
          ⊎ (is_circular_answer (Under p terms) (tell (Under p terms)) ≡ false)
      at false is = inr (ap (λ b. is_circular_answer (Under p terms)
          (content_at (runner_of m.build) (picture_in files objects) end_of (Under p terms)
          (cond b (Some p) None))) is)
      at true is =
          let of = ap (λ b. is_circular_answer (Under p terms)
          (content_at (runner_of m.build) (picture_in files objects) end_of (Under p terms)
          (cond b (Some p) None))) is in
          ⊎_elim
          (λ (circ : is_circle (grade (keep (end_of p))) ≡ true). inl
          (p, ap (λ b. cond b (Some p) None) is, circ))
          (λ (fine : is_circle (grade (keep (end_of p))) ≡ false). inr
          (of ∙ plain_seen p terms (end_of p) fine))
          (true_or_not (is_circle (grade (keep (end_of p)))))

  -- so of a list of keys
  list_told : (o : Name) (asked : List (Key × Content)) → IsTrail (m.build o) tell asked
      → AsksCircle (runner_of m.build) (picture_in files objects) asked ⊎ IsPlainList asked
  list_told o [] trail = inr tt
  list_told o (q ∷ asked) trail =
      ⊎_elim
      (λ (here : (p : Name) × (target_in objects q.0 ≡ Some p)
      × IsCircular (runner_of m.build) (picture_in files objects) p). inl (inl here))
      (λ (fine : is_circular_answer q.0 (tell q.0) ≡ false).
      ⊎_elim
      (λ (before : AsksCircle (runner_of m.build) (picture_in files objects) asked). inl
      (inr before))
      (λ (plain : IsPlainList asked). inr (ap (is_circular_answer q.0) trail.2 ∙ fine, plain))
      (list_told o asked trail.0))
      (key_told q.0)

  cause : (o : Name) (asked : List (Key × Content)) (r : End T) → IsTrail (m.build o) tell asked
      → m.build o asked ≡ Ends r → is_circle (grade (keep r)) ≡ true
      → AsksCircle (runner_of m.build) (picture_in files objects) asked
  cause o asked r trail ends circ =
      ⊎_elim
      (λ (found : AsksCircle (runner_of m.build) (picture_in files objects) asked). found)
      (λ (plain : IsPlainList asked). absurd (let clash : true ≡ false =
      sym (end_circle r circ) ∙ (laws.builds o).plain asked r plain ends in cc))
      (list_told o asked trail)

  pub circle_laws : CircleLaws (runner_of m.build) (picture_in files objects)
  circle_laws = record { soon = build_soon m laws files objects; cause = cause }
