use Rattle.sperner.proofs.Forms.{short_forms_fit}
use Rattle.sperner.proofs.short_forms_fit_3700_bytes.Goals as goal

pub returns : goal.returns
returns c = short_forms_fit
