-- What holds of pages, rules, steps and chains, from the ground up.
-- Links: the array of a new page's links. Rules: what the two rules ask, and where they lead. Traces: any rule's trace, by its steps and by the
-- pages that it passes, and that it depends on their headers alone. Steps: the code's steps as steps of a rule. Places: steps
-- and walks back without headers.
-- Walks: what a walk back visits on any image. Edges: walks to two limits, and by places. Frames: stores elsewhere. Chains: the holder of a number, walks on a chain, what keeps a chain.
-- Seeks: a seek on a chain is right and reads few headers. Written: full pages are a chain, and document 01's run.
pub mod Links
pub mod Rules
pub mod Traces
pub mod Steps
pub mod Places
pub mod Walks
pub mod Edges
pub mod Frames
pub mod Chains
pub mod Seeks
pub mod Written
