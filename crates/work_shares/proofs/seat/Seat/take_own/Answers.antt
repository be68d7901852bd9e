use Rattle.std.proofs.Common.{◌∙◌, refl, sym, ap, arith}
use Rattle.crossbeam_deque.specs.Handles.{worker_view}
use Rattle.work_shares.specs.declared.entry.Entry.TheVariants.{Work}
use Rattle.work_shares.specs.Cuts.{block_count}
use Rattle.work_shares.specs.Entries.{ends}
use Rattle.work_shares.proofs.Takings.{takes_work, ends_after}
use Rattle.work_shares.proofs.Pushes.{ends-entries_of}
use Rattle.work_shares.proofs.seat.Seat.take_own.Goals as goal

pub pop-requires-clause-left : goal.pop-requires-clause-left
pop-requires-clause-left c =
    let s = c.args.self.now in
    let none = c.requires.marked.going c.if-self.false in
    let parts = c.requires.parts in
    let marks = ap ends c.requires.own ∙ ends-entries_of (block_count s.cut.total s.cut.size) s.workers s.worker in
    omega arith

pub returns-in-Work : goal.returns-in-Work
returns-in-Work c =
    let v = worker_view c.args.self.now.own in
    let w = worker_view c.pop.new.owner in
    let x = Work c.in-Work.number in
    let took = c.in-Work.ensures.view in
    let none = c.requires.marked.going c.if-self.false in
    record {
      gives = takes_work v w x c.in-Work.number refl took;
      deque = c.in-Work.ensures.same.0;
      front = c.in-Work.ensures.same.1;
      rest = refl;
      marked = record { going = λ _. (let e = ends_after v w x took in omega arith); over = λ h. cc; ended = λ h. sym c.if-self.false ∙ c.requires.marked.ended h };
      over = tt;
    }
