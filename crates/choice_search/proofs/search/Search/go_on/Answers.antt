-- Each run leaves what is sought ahead, or says what the search has come to.
use Rattle.choice_search.proofs.StepLemmas.{found_back, nowhere_back, searches_on, searches_self}
use Rattle.choice_search.proofs.search.Search.go_on.Goals as goal
use Rattle.choice_search.specs.Searching.{Parts}
use Rattle.choice_search.specs.declared.search.Part.{Part}
use Rattle.std.proofs.Common.{subst, ◌∙◌}

pub runs-init : goal.runs-init
runs-init c = c.requires

pub part-requires : goal.part-requires
part-requires c = searches_self c.args.self.now c.runs.self c.runs.invariant

pub returns-in-All : goal.returns-in-All
returns-in-All c =
    nowhere_back c.args.self.now c.runs.self c.runs.invariant.same
    (subst (λ (p : Part). Parts c.runs.self p c.part.new.self) c.in-All.is c.in_ok-part.ensures)

pub returns-in-Cuts : goal.returns-in-Cuts
returns-in-Cuts c = let cut = subst (λ (p : Part). Parts c.runs.self p c.part.new.self) c.in-Cuts.is c.in_ok-part.ensures in (cut.0 ∙ c.runs.invariant.same.budget, cut.1)

pub returns-in-Finds : goal.returns-in-Finds
returns-in-Finds c =
    found_back c.args.self.now c.runs.self c.runs.invariant.same c.in-Finds.found
    (subst (λ (p : Part). Parts c.runs.self p c.part.new.self) c.in-Finds.is c.in_ok-part.ensures)

pub runs-preserved : goal.runs-preserved
runs-preserved c =
    searches_on c.args.self.now c.runs.self c.part.new.self c.runs.invariant
    (subst (λ (p : Part). Parts c.runs.self p c.part.new.self) c.in-GoesOn.is c.in_ok-part.ensures)

pub returns : goal.returns
returns c = c.runs.invariant
