-- The two sides of a term (document 01, "Terms"). Assumes nothing: this is a definition.

-- the see side is a term's confidentiality, the change side its integrity
pub data Side : Type 0 where
  confidentiality : Side
  integrity : Side
