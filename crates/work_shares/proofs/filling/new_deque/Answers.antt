use Rattle.std.proofs.Common.{◌++◌, replicate, ap, ◌∙◌}
use Rattle.work_shares.specs.declared.entry.View.{View}
use Rattle.work_shares.specs.declared.entry.Entry.TheVariants.{End}
use Rattle.work_shares.specs.Entries.{entries_of}
use Rattle.work_shares.proofs.filling.new_deque.Goals as goal

pub returns : goal.returns
unfolding entries_of
returns c =
    let n = c.push_numbers.ensures in
    let e = c.push_ends.ensures in
    record {
      untaken = record { front = e.same.1 ∙ n.same.1 ∙ c.in_ok-owner.ensures.front; got = ap (λ (v : View). v.got) e.view ∙ ap (λ (v : View). v.got) n.view };
      pushed = ap (λ (v : View). v.pushed) e.view ∙ ap (λ (v : View). v.pushed ++ replicate c.args.workers End) n.view;
      whole = ap (λ (v : View). v.parts) e.view;
    }
