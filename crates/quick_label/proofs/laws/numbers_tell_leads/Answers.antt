use Rattle.quick_label.proofs.Leads.{number_lead}
use Rattle.quick_label.proofs.laws.numbers_tell_leads.Goals as goal

pub returns : goal.returns
returns c = number_lead
