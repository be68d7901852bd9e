use Rattle.coset_label.proofs.KeptLabels.{label_is}
use Rattle.coset_label.proofs.scratch.put_in_order.Goals as goal

pub returns-clause-label : goal.returns-clause-label
returns-clause-label c =
    label_is c.args.channel.now c.find_leads.new.leads c.find_leads.new.negative _ c.sort_columns.new.order c.requires.reduced c.find_leads.ensures c.requires.places c.sort_columns.ensures.permutation
    c.sort_columns.ensures.below c.sort_columns.ensures.sorted
