mod RestLemmas
