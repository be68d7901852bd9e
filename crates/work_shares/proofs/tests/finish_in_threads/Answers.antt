use Rattle.std.proofs.Common.{rules, ◌≡◌, ℕ, List, ◌++◌, drop, take, map, get_or, length, ap, ◌∙◌}
use Rattle.std.proofs.Math.Seq.{take-append_seam}
use Rattle.work_shares.specs.declared.share.Share.{Share}
use Rattle.work_shares.specs.Shares.{place_of}
use Rattle.work_shares.proofs.Kept.{map-same}
use Rattle.work_shares.proofs.tests.finish_in_threads.Goals as goal

pub returns : goal.returns
returns g c =
    let was : List (Share ℕ) = c.args.shares.now.items in
    let now : List (Share ℕ) = c.for_each_mut.new.s in
    let long : length now ≡ length was = search rules in
    let len : c.args.shares.now.len ≡ length now = search rules in
    let all : take c.args.shares.now.len (now ++ drop (length now) was) ≡ now = ap (λ n. take n (now ++ drop (length now) was)) len ∙ take-append_seam now (drop (length now) was) in
    ap (map place_of) all ∙ map-same place_of was now long (λ k d lt. let e : place_of (get_or now k d) ≡ place_of (get_or was k d) = search rules in e)
