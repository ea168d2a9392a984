-- The branch has its next choice, or none is there.
use Rattle.choice_search.proofs.BranchLemmas.{branch_none, branch_there, choices_one}
use Rattle.choice_search.proofs.search.Search.next_run.Goals as goal
use Rattle.std.proofs.Common.{refl}

pub returns-in_ok-choices-in-Some : goal.returns-in_ok-choices-in-Some
returns-in_ok-choices-in-Some c =
    let s = c.args.self.now in
    let b = c.in-Some.branch.now in (
      b,
      record {
        there = branch_there c.as_slice.result.now s.branches.items s.next (λ r. r.now) c.get.result c.in-Some.branch c.as_slice.ensures.value c.get.ensures.lookup.3 c.in-Some.is;
        way = refl;
        choices =
            choices_one c.in_ok-choices-in-Some.choices.items c.as_slice-in-Some.result.now b.choices.items c.in_ok-last-in-Some.last _ c.in_ok-choices-in-Some.ensures c.as_slice-in-Some.ensures.value
            c.in_ok-last-in-Some.ensures;
        count = c.choices_of.ensures;
      },
    )

pub returns-in-None : goal.returns-in-None
returns-in-None c = branch_none c.as_slice.result.now c.args.self.now.branches.items c.args.self.now.next (λ r. r.now) c.get.result c.as_slice.ensures.value c.get.ensures.lookup.3 c.in-None.is
