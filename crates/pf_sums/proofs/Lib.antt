mod EdgeLemmas
