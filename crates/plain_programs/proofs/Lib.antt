mod SmallExcesses
