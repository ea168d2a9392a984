mod MidwayLemmas
mod SpawnedLemmas
mod WaitLemmas
