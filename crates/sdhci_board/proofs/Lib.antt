mod TellsLemmas
