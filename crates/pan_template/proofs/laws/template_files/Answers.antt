use Rattle.pan_template.proofs.Files.{not_circular, object_template, template_code}
use Rattle.pan_template.proofs.laws.template_files.Goals as goal

pub returns : goal.returns
returns c = record {
  faults = template_code;
  not_circular = not_circular;
  objects =
      object_template;
}
