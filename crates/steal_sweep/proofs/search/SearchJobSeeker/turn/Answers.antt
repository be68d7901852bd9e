use Rattle.std.proofs.Common.{refl}
use Rattle.steal_sweep.specs.Searches.Seeks.{skipped, missed, found}
use Rattle.steal_sweep.proofs.search.SearchJobSeeker.turn.Goals as goal

pub returns-then-load-position-clause-seeks : goal.returns-then-load-position-clause-seeks
returns-then-load-position-clause-seeks g c = skipped _ (record { falls = c.load.ensures.falls; knows = c.load.ensures.known }) c.if-load-position.true refl

pub returns-else-at-clause-seeks : goal.returns-else-at-clause-seeks
returns-else-at-clause-seeks g c = missed _ (record { falls = c.load.ensures.falls; knows = c.load.ensures.known }) c.if-load-position.false c.if-at.ensures.gives

pub returns-then-at-clause-seeks : goal.returns-then-at-clause-seeks
returns-then-at-clause-seeks g c =
    found _ _ (record { falls = c.load.ensures.falls; knows = c.load.ensures.known }) c.if-load-position.false c.if-at.ensures.gives
    (record { parts = c.put.ensures.parts; put = c.put.ensures.put; seen = c.put.ensures.seen; least = c.put.ensures.position })
