-- What is written for a token: a record of a section, or a string.

pub data Work : Type 0 where
  Groups : Work
  Names : Work
  Access : Work
  Inputs : Work
  Rules : Work
  References : Work
  Texts : Work
  Lowered : Work
  Firsts : Work
