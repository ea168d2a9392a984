use Rattle.core_places.proofs.waits.refile.Goals as goal

pub refresh_key-requires-clause-made : goal.refresh_key-requires-clause-made
refresh_key-requires-clause-made c = c.requires.0

pub refresh_key-requires-clause-live : goal.refresh_key-requires-clause-live
refresh_key-requires-clause-live c = c.requires.1

pub returns : goal.returns
returns c = c.refresh_key.ensures.links
