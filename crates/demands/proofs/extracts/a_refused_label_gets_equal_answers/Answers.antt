use Rattle.demands.proofs.Comparing.{refused_labels_agree}
use Rattle.demands.proofs.extracts.a_refused_label_gets_equal_answers.Goals as goal

pub returns : goal.returns
returns c = refused_labels_agree
