pub mod Strand
pub mod LentFrames
