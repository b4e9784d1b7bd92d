use Rattle.std.proofs.Common.{◌≡◌, sym, ap, subst, take, ◌∙◌, rules}
use Rattle.pan_grammar.specs.Grammar.{Tokens}
use Rattle.pan_lexer.specs.Lexed.{origin, place_after, place_in}
use Rattle.expected_tokens.specs.Expected.{before, end_of}
use Rattle.expected_tokens.specs.Following.{Begins, CouldFollow, IsSifted}
use Rattle.expected_tokens.specs.declared.candidate.TheConstants.{CANDIDATES}
use Rattle.expected_tokens.proofs.Beginning.{begins_before}
use Rattle.expected_tokens.proofs.expecting.expected_at.Goals as goal

pub all_that_could-requires : goal.all_that_could-requires
all_that_could-requires c =
    let is : c.in_ok-before.before.items ≡ before c.args.place c.args.tokens.now = search rules in
    subst Begins (sym is)
    (begins_before c.args.tokens.now c.args.place c.requires.ended c.requires.wrong)

pub returns : goal.returns
returns c =
    let is : c.in_ok-before.before.items ≡ before c.args.place c.args.tokens.now = search rules in
    let same : c.deref.result.now ≡ before c.args.place c.args.tokens.now =
    c.deref.ensures.value ∙ c.in_ok-candidates.ensures.same ∙ is in
    record {
      wrong = c.requires.wrong;
      candidates = subst (λ (ts : Tokens). IsSifted (CouldFollow ts c.args.place) CANDIDATES
          c.in_ok-candidates.candidates.items) is c.in_ok-candidates.ensures.sifted;
      behind = c.in_ok-behind.ensures ∙ ap (λ (ts : Tokens). place_in c.args.file.now
          (place_after origin (take (end_of ts) c.args.bytes.now))) same;
    }
