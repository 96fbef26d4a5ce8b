-- Laws with their proofs, which a type or an impl cites: only what stands in specs can be cited there. Nothing here has to be believed.
pub mod Bodied
pub mod Ranks
