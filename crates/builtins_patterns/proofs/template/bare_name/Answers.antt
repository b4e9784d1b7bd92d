use Rattle.std.proofs.Common.{◌≡◌, ◌<◌, Some, arith, ap, subst, sym, ◌∙◌, IsUtf8}
use Rattle.std.proofs.lemmas.Str.{IsUtf8-drop}
use Rattle.std.specs.List.{prefix_len}
use Rattle.regex.specs.Templates.{is_name_byte}
use Rattle.builtins_patterns.proofs.Templating.{bare_name, name_ends, no_bare_name}
use Rattle.builtins_patterns.proofs.template.bare_name.Goals as goal

pub returns-then-len-eq0 : goal.returns-then-len-eq0
returns-then-len-eq0 c =
    let is : c.name_len-len.result ≡ prefix_len is_name_byte c.args.after.now =
    c.name_len-len.ensures ∙ ap (prefix_len is_name_byte) c.as_bytes.ensures.value in
    no_bare_name c.args.after.now c.requires (sym is ∙ c.if-len-eq0.true)

pub split_at-requires : goal.split_at-requires
split_at-requires c =
    let is : c.name_len-len.result ≡ prefix_len is_name_byte c.args.after.now =
    c.name_len-len.ensures ∙ ap (prefix_len is_name_byte) c.as_bytes.ensures.value in
    let some : 0 < c.name_len-len.result = omega (arith, c.if-len-eq0.false) in
    name_ends c.args.after.now c.name_len-len.result c.utf8.after is some

pub returns : goal.returns
returns c =
    let len = c.name_len-len.result in
    let is : len ≡ prefix_len is_name_byte c.args.after.now =
    c.name_len-len.ensures ∙ ap (prefix_len is_name_byte) c.as_bytes.ensures.value in
    let some : 0 < len = omega (arith, c.if-len-eq0.false) in (
      len,
      bare_name c.args.after.now len c.requires is some
          ∙ ap (λ t. Some (t, len)) (sym c.split_at.ensures.front),
      c.split_at.ensures.back,
      subst IsUtf8 (sym c.split_at.ensures.back) (IsUtf8-drop c.args.after.now len c.utf8.after
          (name_ends c.args.after.now len c.utf8.after is some)),
    )
