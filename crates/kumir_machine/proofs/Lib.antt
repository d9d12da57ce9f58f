pub mod CoursesAreRuns
pub mod NewMachine
pub mod StepsThenAnswer
pub mod OneCall
pub mod LocalTargets
pub mod RunsExist
