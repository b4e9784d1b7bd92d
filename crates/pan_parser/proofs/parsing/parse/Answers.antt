use Rattle.std.proofs.Common.{◌≡◌, Err, ap}
use Rattle.pan_ast.specs.TemplatesSeen.{template_seen}
use Rattle.pan_grammar.specs.Machine.{Bad, Deep, run}
use Rattle.pan_grammar.specs.States.{Start}
use Rattle.pan_grammar.specs.Parsed.{answer_of}
use Rattle.pan_grammar.proofs.Runs.{parse_low, parse_sound}
use Rattle.pan_parser.proofs.Whole.{bad_fault, bad_gives, bad_some, deep_fault, deep_gives, deep_some}
use Rattle.pan_parser.proofs.parsing.parse.Goals as goal

pub fault_on-requires : goal.fault_on-requires
fault_on-requires c =
    let q : run c.args.tokens.now Start ≡ Err (Bad c.in-Err-Bad.rest.now) =
    rw c.in-Err-Bad.field-0-is at c.in-Err-Bad.ensures.read in
    bad_some c.args.tokens.now c.in-Err-Bad.rest.now c.requires.ended q

pub fault_on-requires-in-Err-Deep : goal.fault_on-requires-in-Err-Deep
fault_on-requires-in-Err-Deep c =
    let q : run c.args.tokens.now Start ≡ Err (Deep c.in-Err-Deep.rest.now) =
    rw c.in-Err-Deep.field-0-is at c.in-Err-Deep.ensures.read in
    deep_some c.args.tokens.now c.in-Err-Deep.rest.now q

pub returns-in-Ok-clause-exact : goal.returns-in-Ok-clause-exact
returns-in-Ok-clause-exact c = ap answer_of c.in-Ok.ensures.read

pub returns-in-Ok-clause-found : goal.returns-in-Ok-clause-found
returns-in-Ok-clause-found c =
    parse_sound c.args.tokens.now (template_seen c.in-Ok.template) c.in-Ok.ensures.read

pub returns-in-Ok-clause-low : goal.returns-in-Ok-clause-low
returns-in-Ok-clause-low c =
    parse_low c.args.tokens.now (template_seen c.in-Ok.template) c.in-Ok.ensures.read

pub returns-in-Err-Bad-clause-exact : goal.returns-in-Err-Bad-clause-exact
returns-in-Err-Bad-clause-exact c =
    let q : run c.args.tokens.now Start ≡ Err (Bad c.in-Err-Bad.rest.now) =
    rw c.in-Err-Bad.field-0-is at c.in-Err-Bad.ensures.read in
    bad_gives c.args.tokens.now c.in-Err-Bad.rest.now c.fault_on.result q c.fault_on.ensures

pub returns-in-Err-Bad-clause-fault : goal.returns-in-Err-Bad-clause-fault
returns-in-Err-Bad-clause-fault c =
    let q : run c.args.tokens.now Start ≡ Err (Bad c.in-Err-Bad.rest.now) =
    rw c.in-Err-Bad.field-0-is at c.in-Err-Bad.ensures.read in
    bad_fault c.args.tokens.now c.in-Err-Bad.rest.now c.fault_on.result
    (bad_some c.args.tokens.now c.in-Err-Bad.rest.now c.requires.ended q) q c.fault_on.ensures

pub returns-in-Err-Deep-clause-exact : goal.returns-in-Err-Deep-clause-exact
returns-in-Err-Deep-clause-exact c =
    let q : run c.args.tokens.now Start ≡ Err (Deep c.in-Err-Deep.rest.now) =
    rw c.in-Err-Deep.field-0-is at c.in-Err-Deep.ensures.read in
    deep_gives c.args.tokens.now c.in-Err-Deep.rest.now c.fault_on-in-Err-Deep.result q
    c.fault_on-in-Err-Deep.ensures

pub returns-in-Err-Deep-clause-fault : goal.returns-in-Err-Deep-clause-fault
returns-in-Err-Deep-clause-fault c =
    let q : run c.args.tokens.now Start ≡ Err (Deep c.in-Err-Deep.rest.now) =
    rw c.in-Err-Deep.field-0-is at c.in-Err-Deep.ensures.read in
    deep_fault c.args.tokens.now c.in-Err-Deep.rest.now c.fault_on-in-Err-Deep.result
    (deep_some c.args.tokens.now c.in-Err-Deep.rest.now q) q c.fault_on-in-Err-Deep.ensures
