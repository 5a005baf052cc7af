use Rattle.std.proofs.Common.{true, false, refl, inl, inr}
use Rattle.voting.proofs.Layers.{IsLayer-nobody, IsLayer-none}
use Rattle.voting.proofs.split_layers.SplitLayers.of_nobody.Goals as goal

pub returns-clause-layers : goal.returns-clause-layers
returns-clause-layers c = λ m f. record {
  any = IsLayer-nobody m f c.of_nobody.result c.of_nobody.ensures.nobody c.of_nobody.ensures.others;
  holding = IsLayer-none m true false f c.none.result (inl refl) c.none.ensures.entries;
  lacking = IsLayer-none m false true f c.none-2.result (inr refl) c.none-2.ensures.entries;
  both = IsLayer-none m true true f c.none-3.result (inl refl) c.none-3.ensures.entries;
}
