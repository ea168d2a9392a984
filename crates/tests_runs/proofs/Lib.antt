mod AccessLemmas
mod MeetLemmas
