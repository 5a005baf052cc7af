use Rattle.law_duality.proofs.SmallShapesAreForms.{small_shapes_are_forms}
use Rattle.law_duality.proofs.certificates.small_shapes_are_forms.Goals as goal

pub returns : goal.returns
returns c = small_shapes_are_forms
