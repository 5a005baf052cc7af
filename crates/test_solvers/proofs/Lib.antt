mod LevelSpans
