-- What is no want of memory is a refusal of the definition.
use Rattle.std.proofs.Common.{◌≡◌, ◌≢◌, Some, refl}
use Rattle.path_tree.specs.Refusals.{refusal, path_refusal, put_refusal}
use Rattle.path_tree.specs.declared.refused.Refused.{Refused}
use Rattle.path_tree.specs.declared.refused.Refused.TheVariants as refused
use Rattle.path_tree.specs.declared.path.PathError.{PathError}
use Rattle.path_tree.specs.declared.path.PathError.TheVariants as path_error
use Rattle.path_tree.specs.declared.path.PutError.{PutError}
use Rattle.path_tree.specs.declared.path.PutError.TheVariants as put_error

pub refusal_is : (e : Refused) → e ≢ refused.Memory → refusal e ≡ Some e
refusal_is refused.Memory h = absurd (h refl)
refusal_is refused.TypeClash h = refl
refusal_is refused.Overflow h = refl
refusal_is refused.ZeroDivisor h = refl
refusal_is refused.BadArgument h = refl
refusal_is refused.BadPattern h = refl
refusal_is refused.BadIndex h = refl
refusal_is refused.TooLarge h = refl

pub path_refusal_is : (e : PathError) → e ≢ path_error.Memory → path_refusal e ≡ Some e
path_refusal_is path_error.Memory h = absurd (h refl)
path_refusal_is path_error.Empty h = refl
path_refusal_is path_error.TooLong h = refl
path_refusal_is (path_error.BadTerm i) h = refl

pub put_refusal_is : (e : PutError) → e ≢ put_error.Memory → put_refusal e ≡ Some e
put_refusal_is put_error.Memory h = absurd (h refl)
put_refusal_is (put_error.ThroughProperty n) h = refl
put_refusal_is put_error.KeyInList h = refl
put_refusal_is put_error.IndexInDict h = refl
put_refusal_is put_error.TooLarge h = refl
put_refusal_is put_error.TooHigh h = refl
