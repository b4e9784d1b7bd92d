use Rattle.std.proofs.Common.{◌≡◌, true, [], ◌∷◌, ◌++◌, map, codes, sym, ap, subst, ◌∙◌}
use Rattle.load_path.specs.Pictures.{is_rising}
use Rattle.outside.specs.Pictures.{are_pictures}
use Rattle.demo_pictures.specs.Demo.{port_of, machine_text, demo_picture}
use Rattle.demo.specs.Pictures.{file_of, replaced, touched, demo_pictures}
use Rattle.demo.proofs.Distinct.{pictures_are, pictures_distinct}
use Rattle.demo.proofs.pictures.pictures.Goals as goal

pub returns-clause-pictures : goal.returns-clause-pictures
returns-clause-pictures c =
    pictures_are c.args.count c.args.start c.port_of-port.result c.in_ok-picture.picture
    c.in_ok-touched_machine.field-0 c.in_ok-moved.moved c.in_ok-touched.field-0 c.from_vec.result
    c.from_vec-2.result c.from_vec-3.result c.from_vec-4.result c.push-4.new.self.items
    (c.in_ok-push-4.ensures.items ∙ ap (λ l. l ++ c.from_vec-4.result ∷ [])
    (c.in_ok-push-3.ensures.items ∙ ap (λ l. l ++ c.from_vec-3.result ∷ [])
    (c.in_ok-push-2.ensures.items ∙ ap (λ l. l ++ c.from_vec-2.result ∷ [])
    (c.in_ok-push.ensures.items ∙ ap (λ l. l ++ c.from_vec.result ∷ [])
    c.in_ok-made.ensures.items))))
    c.in_ok-picture.ensures
    (c.port_of-port.ensures ∙ ap port_of c.next_number.ensures)
    c.in_ok-touched_machine.ensures
    (c.in_ok-moved.ensures ∙ ap (λ p. touched (machine_text 0 p)) c.port_after.ensures)
    (c.in_ok-touched.ensures ∙ ap touched c.common_text.ensures)
    (c.from_vec.ensures ∙ c.in_ok-first.ensures ∙ ap (map file_of) c.files.ensures.files)
    (c.from_vec-2.ensures ∙ c.in_ok-second.ensures
    ∙ ap (replaced (codes "h0.pan") c.in_ok-touched_machine.field-0) (sym c.from_vec.ensures))
    (c.from_vec-3.ensures ∙ c.in_ok-third.ensures
    ∙ ap (replaced (codes "h0.pan") c.in_ok-moved.moved) (sym c.from_vec-2.ensures))
    (c.from_vec-4.ensures ∙ c.in_ok-fourth.ensures
    ∙ ap (replaced (codes "site/common.pan") c.in_ok-touched.field-0)
    (sym c.from_vec-3.ensures))

pub returns-clause-distinct : goal.returns-clause-distinct
returns-clause-distinct c =
    let is : c.push-4.new.self.items ≡ demo_pictures c.args.count c.args.start =
    pictures_are c.args.count c.args.start c.port_of-port.result c.in_ok-picture.picture
    c.in_ok-touched_machine.field-0 c.in_ok-moved.moved c.in_ok-touched.field-0
    c.from_vec.result c.from_vec-2.result c.from_vec-3.result c.from_vec-4.result
    c.push-4.new.self.items
    (c.in_ok-push-4.ensures.items ∙ ap (λ l. l ++ c.from_vec-4.result ∷ [])
    (c.in_ok-push-3.ensures.items ∙ ap (λ l. l ++ c.from_vec-3.result ∷ [])
    (c.in_ok-push-2.ensures.items ∙ ap (λ l. l ++ c.from_vec-2.result ∷ [])
    (c.in_ok-push.ensures.items ∙ ap (λ l. l ++ c.from_vec.result ∷ [])
    c.in_ok-made.ensures.items))))
    c.in_ok-picture.ensures
    (c.port_of-port.ensures ∙ ap port_of c.next_number.ensures)
    c.in_ok-touched_machine.ensures
    (c.in_ok-moved.ensures ∙ ap (λ p. touched (machine_text 0 p)) c.port_after.ensures)
    (c.in_ok-touched.ensures ∙ ap touched c.common_text.ensures)
    (c.from_vec.ensures ∙ c.in_ok-first.ensures ∙ ap (map file_of) c.files.ensures.files)
    (c.from_vec-2.ensures ∙ c.in_ok-second.ensures
    ∙ ap (replaced (codes "h0.pan") c.in_ok-touched_machine.field-0) (sym c.from_vec.ensures))
    (c.from_vec-3.ensures ∙ c.in_ok-third.ensures
    ∙ ap (replaced (codes "h0.pan") c.in_ok-moved.moved) (sym c.from_vec-2.ensures))
    (c.from_vec-4.ensures ∙ c.in_ok-fourth.ensures
    ∙ ap (replaced (codes "site/common.pan") c.in_ok-touched.field-0)
    (sym c.from_vec-3.ensures)) in
    let rising : is_rising (demo_picture c.args.count c.args.start) ≡ true =
    subst (λ q. is_rising q ≡ true) c.in_ok-picture.ensures c.files.ensures.rising in
    subst (λ ps. are_pictures ps ≡ true) (sym is)
    (pictures_distinct c.args.count c.args.start rising)
