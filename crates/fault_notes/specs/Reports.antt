-- Which faults of a report's lines are told, each once and with its objects.
use Rattle.std.specs.Prelude.{ℕ, ◌-◌, List, [], ◌∷◌, take, length, map, not, bytes_eq}
use Rattle.std.specs.List.{filter}
use Rattle.fault_notes.specs.Lines.{object_in, fault_in}
use Rattle.fault_notes.specs.declared.report.Repeated.{Repeated}
use Rattle.fault_notes.specs.declared.report.Report.{Report}
use Rattle.fault_notes.specs.declared.report.TheConstants.{MAX_NOTES}

-- each text once, in the order in which they come first
abbrev pub different : List (List ℕ) → List (List ℕ)
different [] = []
different (text ∷ texts) = text ∷ filter (λ other. not (bytes_eq text other)) (different texts)

-- the different faults of the lines
abbrev pub faults_of : List (List ℕ) → List (List ℕ)
faults_of lines = different (map fault_in lines)

-- the objects that have a fault
abbrev pub objects_with : List (List ℕ) → List ℕ → List (List ℕ)
objects_with lines fault = map object_in (filter (λ line. bytes_eq (fault_in line) fault) lines)

abbrev pub with_objects : List (List ℕ) → List ℕ → Repeated
with_objects lines fault = record { fault = fault; objects = objects_with lines fault }

-- the first so many different faults, each with its objects, and how many are left
abbrev pub report_of : List (List ℕ) → Report
report_of lines = record {
  faults = map (with_objects lines) (take MAX_NOTES (faults_of lines));
  left = length (faults_of lines) - MAX_NOTES;
}
