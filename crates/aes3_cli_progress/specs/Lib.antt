pub mod Progresses
